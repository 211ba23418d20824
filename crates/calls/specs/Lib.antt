pub mod Gates
pub mod Replies
pub mod Views
