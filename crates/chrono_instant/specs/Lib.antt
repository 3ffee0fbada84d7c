pub use Rattle.chrono_clock.specs.Duration
pub use Rattle.chrono_clock.specs.Time
pub use Rattle.chrono_datetime.specs.Moment
pub mod Instants
pub mod Offsets
pub mod OffsetText
