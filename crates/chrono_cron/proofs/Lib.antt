-- Lemmas that other crates cite stand in this module.
pub mod TextWords
-- The rest serve this crate's own proofs alone.
mod DayCycles
mod DueLists
mod EachMinute
mod FieldTexts
mod FieldFaults
mod FirstWrong
mod DueMinutes
mod NamedDaySets
mod DueMonths
mod OneReading
mod MomentOrder
mod DayFieldsReadBack
mod NamedDaysReadBack
mod FieldsReadBack
mod SchedulesReadBack
mod TimesReadBack
mod WeekdaysReadBack
mod SameDues
mod ReadIsWritable
mod ReadFields
mod DayItems
mod WrittenFields
mod WrittenAscii
