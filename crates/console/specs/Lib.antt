pub mod Asking
pub mod Walks
pub mod Marks
pub mod Blaming
pub mod Replies
pub mod Runs
pub mod Law
pub mod Exact
