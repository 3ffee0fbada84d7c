pub mod Days
pub mod Weeks
pub mod Order
pub mod Flags
pub mod MonthMoves
pub mod YearsBetween
pub mod NameLaws
pub mod Recurrence
