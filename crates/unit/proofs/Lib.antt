mod Answering
mod Settling
mod Stepping
