-- The lemmas that several proofs share.
pub mod Beyond
pub mod Mapped
pub mod Places
pub mod Adding
