-- Lemmas that other crates cite stand in these modules.
pub use Rattle.chrono_text.proofs.Signed
pub mod Years
pub mod Names
pub mod Tests
pub mod Entries
pub mod Months
pub mod KnownValues
pub mod Order
pub mod Dates
pub mod NamedDates
pub mod Weeks
pub mod IsoWeeks
pub mod IsoDates
pub mod IsoOrder
pub mod IsoMondays
pub mod WeekDays
pub mod Cycles
pub mod MonthOrder
pub mod MonthMoveLaws
pub mod MonthDays
pub mod Moves
pub mod LastWeekdays
pub mod FirstOn
pub mod FirstWhere
pub mod CountWhere
pub mod CountBetween
pub mod EveryMonths
pub mod GivenNames
pub mod GivenWeekdays
pub mod Birthdays
pub mod Rising
pub mod WholeYears
-- The rest serve this crate's own proofs alone.
mod GhostWalks
mod NthWeekdays
mod Refusals
