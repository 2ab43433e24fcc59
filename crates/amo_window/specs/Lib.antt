pub mod Fault
pub mod Timers
pub mod Window
