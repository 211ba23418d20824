pub mod Faults
pub mod Promises
pub mod Replies
pub mod Whole
