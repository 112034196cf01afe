pub mod Ranges
pub mod Rules
pub mod Plans
pub mod Edits
pub mod Sounding
