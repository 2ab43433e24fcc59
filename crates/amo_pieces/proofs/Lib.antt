pub mod Wholes
pub mod Openings
pub mod Together
pub mod Starts
pub mod Counts
pub mod Added
pub mod NumberedNames
