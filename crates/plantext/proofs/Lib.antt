-- The lemmas that several proofs share, in the order of the layers.
pub mod Back
pub mod Counting
pub mod Cutting
pub mod Holding
pub mod Lining
pub mod Named
pub mod Spaced
pub mod Spelt
