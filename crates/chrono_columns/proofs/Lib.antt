-- Lemmas that other crates cite stand in these modules.
pub mod Blocks
pub mod TenBytes
-- The rest serve this crate's own proofs alone.
mod Entries
mod InPlace
mod MonthTests
mod NameTests
mod TextEntries
mod TextNames
