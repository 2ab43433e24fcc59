pub mod Served
pub mod Sides
pub mod Told
pub mod Replied
