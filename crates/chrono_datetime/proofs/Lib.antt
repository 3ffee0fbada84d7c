-- Lemmas that crates above cite: of signed numbers for `omega`, of names, weekdays, weeks and months, of texts, and of days that pass a test.
pub use Rattle.chrono_units.proofs.Years
pub use Rattle.chrono_units.proofs.WeekdayCycle
pub use Rattle.chrono_units.proofs.ListsLeft
pub use Rattle.chrono_units.proofs.SetTexts
pub use Rattle.chrono_units.proofs.DayNames
pub use Rattle.chrono_naive.proofs.Signed
pub use Rattle.chrono_naive.proofs.MonthLengths
pub use Rattle.chrono_naive.proofs.Names
pub use Rattle.chrono_naive.proofs.NamedDates
pub use Rattle.chrono_naive.proofs.WeekDays
pub use Rattle.chrono_naive.proofs.IsoWeeks
pub use Rattle.chrono_naive.proofs.IsoMondays
pub use Rattle.chrono_naive.proofs.MonthDays
pub use Rattle.chrono_naive.proofs.MonthOrder
pub use Rattle.chrono_naive.proofs.Order
pub use Rattle.chrono_naive.proofs.Rising
pub use Rattle.chrono_naive.proofs.Cycles
pub use Rattle.chrono_naive.proofs.FirstWhere
pub use Rattle.chrono_naive.proofs.CountWhere
pub use Rattle.chrono_naive.proofs.CountBetween
pub use Rattle.chrono_naive.proofs.Birthdays
pub use Rattle.chrono_naive.proofs.LastWeekdays
pub use Rattle.chrono_naive.proofs.DateTextLemmas
pub use Rattle.chrono_naive.proofs.RisingLists
pub use Rattle.chrono_naive.proofs.DateListLemmas
pub mod DatesOfOneName
pub mod MonthPlaces
-- The rest serve this crate's own proofs alone.
mod ReachLemmas
mod DifferenceLemmas
