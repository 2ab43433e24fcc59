pub mod Fault
pub mod File
pub mod Statuses
pub mod Token
