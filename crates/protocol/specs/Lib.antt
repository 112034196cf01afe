-- The definitions that contracts cite: what command bytes say, and the lines of replies.
pub mod Bytes
pub mod Held
pub mod Lines
pub mod Writes
