pub mod Ends
pub mod Steps
pub mod Told
pub mod Calls
pub mod Puts
pub mod Words
pub mod Takes
pub mod Measures
