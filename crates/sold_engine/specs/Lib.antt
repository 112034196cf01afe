pub mod Sold
pub mod SmallPlans
pub mod SamplePlans
