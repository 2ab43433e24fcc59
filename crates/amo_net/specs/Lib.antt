pub mod Fault
pub mod Link
pub mod Lossy
