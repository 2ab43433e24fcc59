pub mod Word
pub mod SipHash
pub mod Feistel
pub mod Distinct
