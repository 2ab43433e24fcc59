pub mod Journal
pub mod Text
pub mod Places
pub mod Kept
pub mod Names
