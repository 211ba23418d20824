pub mod Histories
pub mod Laws
pub mod Runs
pub mod Terms
pub mod Unit
pub mod Worked
