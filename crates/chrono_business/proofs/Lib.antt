-- Lemmas that crates above cite: of the rank of a day, of the n-th open day from a day, of rolls and of moves by open days.
pub mod Ranks
pub mod Laws
pub mod RollLemmas
pub mod OpenMoves
-- The rest serve this crate's own proofs alone.
mod Early
mod Workdays
mod WeekTables
mod Checked
mod HolidayInserts
mod HolidayUnions
mod HolidayFilters
mod JoinedCalendars
mod EasterLemmas
mod OpenLists
mod MonthDayCounts
mod RollLaws
mod LastWeekdays
mod LeapDayCounts
mod KnownDays
mod FirstYears
