pub mod Explanation
pub mod Plan
pub mod Weaving
pub mod Telling
pub mod Fault
pub mod Resolved
pub mod Seen
