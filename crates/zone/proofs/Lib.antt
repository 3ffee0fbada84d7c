-- Lemmas of this crate's own proofs.
mod Joins
mod ZoneLemmas
