pub mod AtStreamLemmas
pub mod ChargeLemmas
pub mod DivisionLemmas
pub mod Drives
pub mod HeldLemmas
pub mod HostLemmas
pub mod PartLemmas
pub mod StationLemmas
