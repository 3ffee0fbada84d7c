-- These serve this crate's own proofs alone.
mod CalendarLemmas
mod ColumnLemmas
mod DigitLemmas
mod FilledLists
mod FoundNumbers
mod KnownAnswers
mod KnownHolidays
mod ListedInstants
mod MomentLemmas
mod Numbered
mod PlainLists
mod RuleLemmas
mod SaidLemmas
mod SetsOfFields
mod WrittenLemmas
mod FileLemmas
mod ZoneLemmas
