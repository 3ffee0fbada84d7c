-- Lemmas that other crates cite stand in these modules.
pub mod SetMembers
pub mod WeekdayCycle
pub mod WalkLengths
pub mod ListsLeft
pub mod DayNames
pub mod SetTexts
pub mod Years
-- The rest serve this crate's own proofs alone.
mod EachSet
mod KnownValues
mod NamesInFront
mod SetAhead
mod SetDigitLemmas
mod SetPlaces
mod SetWalks
