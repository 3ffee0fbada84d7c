pub use Rattle.chrono_zoned.specs.Zones
pub mod RuleDays
pub mod Changes
pub mod Rules
pub mod Private
