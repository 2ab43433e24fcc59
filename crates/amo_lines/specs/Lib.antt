pub mod Backlog
pub mod Input
pub mod Line
pub mod Object
pub mod Owed
pub mod Spelt
