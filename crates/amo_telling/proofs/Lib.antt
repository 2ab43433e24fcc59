pub mod Counted
pub mod PutLines
pub mod SoFar
pub mod Journals
pub mod LineByLine
pub mod GoingOn
pub mod Pairs
pub mod Untolds
pub mod Tallies
pub mod Settling
mod Resumed
