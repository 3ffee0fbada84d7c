pub mod Moves
pub mod Sequences
pub mod Distances
pub mod Parts
pub mod Sheets
pub mod DayNames
pub mod Quoted
pub mod Lines
