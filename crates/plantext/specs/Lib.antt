-- The definitions that contracts cite, from bytes to statements.
pub mod Cuts
pub mod Grammar
pub mod Held
pub mod Padding
pub mod Spelling
pub mod Writes
