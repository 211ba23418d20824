pub mod Answers
pub mod Flat
pub mod Memory
pub mod Numbers
pub mod Partition
