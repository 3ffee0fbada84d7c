pub mod Blocks
pub mod ZoneFiles
pub mod Kinds
pub mod Tables
pub mod KnownFiles
