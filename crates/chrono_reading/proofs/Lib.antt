-- Lemmas that other crates cite stand in these modules.
pub mod TimeTextLemmas
-- The rest serve this crate's own proofs alone.
mod DateLemmas
mod DateTimeLemmas
mod DurationTextLemmas
mod PrintedLemmas
mod NameLemmas
mod NearMisses
mod FittingLemmas
mod PartsLemmas
mod OneErrorLemmas
