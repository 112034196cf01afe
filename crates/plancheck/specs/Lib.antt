-- The definitions that contracts cite.
pub mod Numbers
pub mod Widths
pub mod Claims
pub mod Edits
pub mod Follows
pub mod Tallies
pub mod Texts
