-- The lemmas of the crate: bytes to commands, and lines.
pub mod Appending
pub mod Back
pub mod Digits
pub mod FirstCommand
pub mod Itemizing
pub mod Onward
