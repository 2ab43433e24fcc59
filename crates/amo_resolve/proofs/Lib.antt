pub mod Answered
pub mod Falls
pub mod Following
pub mod Lists
pub mod Planning
pub mod Serving
pub mod Subsequences
mod Losing
mod Replicas
mod Runs
mod Weaving
mod Telling
mod Gathering
mod Seeing
pub mod Bordering
pub mod Asking
pub mod Stepping
