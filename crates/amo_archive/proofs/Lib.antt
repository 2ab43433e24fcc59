mod Reading
mod Lanes
mod Pasts
mod Endings
mod Answered
