pub mod NeverTooLarge
pub mod Sampling
