-- Lemmas that other crates cite stand in these modules.
pub use Rattle.chrono_calendar.proofs.Signed
pub use Rattle.chrono_calendar.proofs.Names
pub use Rattle.chrono_calendar.proofs.NamedDates
pub use Rattle.chrono_calendar.proofs.WeekDays
pub use Rattle.chrono_calendar.proofs.IsoWeeks
pub use Rattle.chrono_calendar.proofs.IsoMondays
pub use Rattle.chrono_calendar.proofs.MonthDays
pub use Rattle.chrono_calendar.proofs.MonthOrder
pub use Rattle.chrono_calendar.proofs.Order
pub use Rattle.chrono_calendar.proofs.Rising
pub use Rattle.chrono_calendar.proofs.Cycles
pub use Rattle.chrono_calendar.proofs.FirstWhere
pub use Rattle.chrono_calendar.proofs.CountWhere
pub use Rattle.chrono_calendar.proofs.CountBetween
pub use Rattle.chrono_calendar.proofs.Birthdays
pub use Rattle.chrono_calendar.proofs.LastWeekdays
pub mod DateListLemmas
pub mod DateTextLemmas
pub mod MonthLengths
pub mod RisingLists
-- The rest serve this crate's own proofs alone.
mod DayMoves
mod FirstSoon
mod IsoYears
mod KnownValues
mod LaterMonths
mod TakenDates
