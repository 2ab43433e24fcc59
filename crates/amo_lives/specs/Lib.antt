pub mod Boot
pub mod Life
pub mod Lives
pub mod Kept
pub mod Fault
pub mod Tag
pub mod Doubt
