mod Checked
pub mod Over
