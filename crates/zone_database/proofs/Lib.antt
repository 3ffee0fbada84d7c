-- Lemmas of this crate's own proofs.
mod NameLemmas
mod WrongFiles
