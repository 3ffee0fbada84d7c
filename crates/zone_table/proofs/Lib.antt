-- Lemmas that other crates cite stand in these modules.
pub mod LocalTimes
pub mod NextAndPrevious
mod SearchLemmas
pub mod SequenceLemmas
pub mod TableLemmas
