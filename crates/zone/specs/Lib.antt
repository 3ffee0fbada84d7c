pub use Rattle.chrono_zoned.specs.Zones
pub mod Parts
pub mod FaultTexts
pub mod Private
pub mod KnownRules
