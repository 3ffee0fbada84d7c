-- Lemmas that other crates cite stand in these modules.
pub mod Parts
-- The rest serve this crate's own proofs alone.
mod Splits
mod Reading
mod Weekdays
mod Commands
mod Counts
mod Laws
