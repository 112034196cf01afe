pub mod PlanRules
pub mod Offending
pub mod Answering
pub mod Soundings
pub mod Takeable
