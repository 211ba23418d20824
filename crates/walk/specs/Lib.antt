pub mod Gaps
pub mod Marking
pub mod Names
pub mod Numbers
pub mod Rules
pub mod Walk
