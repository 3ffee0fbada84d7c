pub use Rattle.chrono_zoned.specs.Zones
pub mod Sequence
pub mod Table
pub mod Changes
pub mod Search
