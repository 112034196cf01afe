pub mod Forms
pub mod Decision
