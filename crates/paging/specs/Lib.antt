-- Marks, Words and the two files of laws hold proofs. They stand here since the laws at an impl cite nothing of proofs/.
pub mod Bits
pub mod Entries
pub mod Formats
pub mod Names
pub mod Numbers
pub mod Sv32
pub mod Terms
pub mod X86
pub mod Sv32Laws
pub mod Marks
pub mod Words
pub mod X86Laws
