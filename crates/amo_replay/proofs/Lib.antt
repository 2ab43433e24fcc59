pub mod Places
pub mod Owning
pub mod Applying
pub mod Answering
pub mod Replays
