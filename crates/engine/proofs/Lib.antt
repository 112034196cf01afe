pub mod Exactness
pub mod StateRows
pub mod Loading
pub mod Readings
pub mod Replying
