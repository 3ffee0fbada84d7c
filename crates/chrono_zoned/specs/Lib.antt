pub use Rattle.chrono_instant.specs.Instants
pub use Rattle.chrono_instant.specs.Offsets
pub mod Zones
pub mod Zoned
pub mod ZonedText
pub mod MomentOrder
pub mod HeldSeconds
pub mod KnownZones
