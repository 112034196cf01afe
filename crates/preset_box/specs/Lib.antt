pub mod SmallRuns
pub mod SampleRuns
