-- Lemmas that other crates cite stand in these modules.
pub mod DateTimeLemmas
pub mod LengthLemmas
