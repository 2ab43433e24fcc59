pub mod Sides
pub mod Hosts
pub mod Transcript
pub mod Ending
pub mod Stop
