-- Lemmas that other crates cite stand in these modules.
pub mod DayNumbers
pub mod FromMarch
pub mod MonthsFromMarch
-- The rest serve this crate's own proofs alone.
mod MonthDay
mod PackedNames
mod Ends
mod PackedOrder
mod YearAnswers
mod WeekRemainders
