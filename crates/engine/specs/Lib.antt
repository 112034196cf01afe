pub mod Verdicts
pub mod Refusals
pub mod Interface
pub mod Exactness
pub mod States
pub mod Deciding
