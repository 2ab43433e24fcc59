pub mod Backlogs
pub mod Clients
pub mod Owing
