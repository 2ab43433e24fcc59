pub mod Addresses
pub mod Described
pub mod Matched
pub mod Named
pub mod Refused
pub mod Within
pub mod Unfit
