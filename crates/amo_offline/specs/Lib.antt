pub mod Fault
pub mod Pair
pub mod Statuses
pub mod ToldFile
