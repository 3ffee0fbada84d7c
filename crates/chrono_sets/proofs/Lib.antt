-- Lemmas that other crates cite stand in these modules.
pub mod Members
pub mod Steps
-- The rest serve this crate's own proofs alone.
mod Digits
mod Gaps
mod WordDigits
