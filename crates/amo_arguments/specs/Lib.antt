pub use Rattle.amo_settings.specs.Limits
pub mod Arguments
pub mod Chosen
pub mod Commands
