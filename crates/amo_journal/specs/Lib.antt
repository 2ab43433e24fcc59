pub mod Version
pub mod Journal
pub mod Fault
pub mod Fields
pub mod Gathering
pub mod Lines
