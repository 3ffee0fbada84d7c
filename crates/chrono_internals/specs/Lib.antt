pub mod MonthDay
pub mod Tables
