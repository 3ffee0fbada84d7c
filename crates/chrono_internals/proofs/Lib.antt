-- All serve this crate's own proofs alone.
mod LeapYears
mod MonthDays
mod KnownValues
