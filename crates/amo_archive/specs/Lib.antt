pub mod Records
pub mod Lane
pub mod Fates
pub mod Reign
pub mod Past
pub mod Archive
pub mod Handshakes
