pub mod Network
pub mod Distinctness
