-- How long a month is, for crates above.
pub use Rattle.chrono_calendar.proofs.Months.{month_length_in-bounds}
