pub mod Naming
mod Places
mod Rounds
