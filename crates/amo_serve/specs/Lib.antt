pub mod Serving
pub mod Fates
pub mod Ending
pub mod Waiting
pub mod States
pub mod Calls
