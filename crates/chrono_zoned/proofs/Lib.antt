-- Lemmas that other crates cite stand in these modules.
pub use Rattle.chrono_clock.proofs.TimeLemmas
pub mod OneChangeLemmas
pub mod OptionLemmas
pub mod SecondSums
pub mod HeldSecondLemmas
-- The rest serve this crate's own proofs alone.
mod MappedLemmas
