pub mod Permits
pub mod Rising
pub mod TimersLemmas
pub mod WindowLemmas
