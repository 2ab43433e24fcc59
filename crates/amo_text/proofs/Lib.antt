pub mod Written
pub mod Digits
pub mod HexDigits
pub mod Cuts
pub mod Lines
pub mod Readings
pub mod Fields
