-- Lemmas that other crates cite stand in these modules.
pub mod TimeLemmas
pub mod LandingLemmas
pub mod DistanceLemmas
pub mod OrderLemmas
pub mod MomentLemmas
pub mod NamedDurations
-- The rest serve this crate's own proofs alone.
mod DurationLemmas
mod SumLemmas
