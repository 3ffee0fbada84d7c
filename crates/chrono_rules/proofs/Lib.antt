-- Lemmas that other crates cite stand in these modules.
pub mod DayTexts
pub mod Intervals
-- The rest serve this crate's own proofs alone.
mod BareTexts
mod Counts
mod Cycles
mod DayLists
mod ErrorLines
mod EndsBack
mod FoundValues
mod GivenDays
mod Kept
mod ListLemmas
mod ListedDays
mod ListsBack
mod ListsWithin
mod Moments
mod Months
mod NamedDays
mod PartValues
mod Passed
mod PeriodMembers
mod PeriodsLeftOut
mod PlacesFromEnd
mod PlacesBeyond
mod PlacesInPeriods
mod RecurrenceWalks
mod Repeated
mod RepeatedWeeks
mod RuleAscii
mod RuleBack
mod RuleWritable
mod Skipped
mod WeekdaysBack
mod WordBytes
mod WrittenParts
mod YearsOfDates
