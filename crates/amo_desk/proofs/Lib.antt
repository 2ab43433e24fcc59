pub mod Conserving
pub mod Readers
