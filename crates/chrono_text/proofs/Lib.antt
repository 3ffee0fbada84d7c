-- Lemmas that other crates cite stand in these modules.
pub mod DigitLemmas
pub mod TextLemmas
pub mod AsciiTexts
pub mod FractionLemmas
pub mod Types
pub mod NumberLemmas
pub mod ListLemmas
pub mod PieceLemmas
pub mod NaturalLemmas
pub mod Decimals
pub mod AnswerLemmas
pub mod Signed
-- The rest serve this crate's own proofs alone.
mod LaneLemmas
