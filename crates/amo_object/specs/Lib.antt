pub mod Delivery
pub mod End
pub mod Example
pub mod Fault
pub mod Queue
pub mod Run
