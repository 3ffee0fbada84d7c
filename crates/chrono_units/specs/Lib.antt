pub mod Month
pub mod SetDigits
pub mod Weekday
pub mod WeekdaySet
pub mod Years
pub mod WeekdayText
pub mod Names
