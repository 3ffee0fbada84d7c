-- Lemmas that other crates cite stand in these modules.
pub mod LastChanges
-- The rest serve this crate's own proofs alone.
mod AllYear
mod Carried
mod DaysInYears
mod Holds
mod LastOfAll
mod MeanYears
mod NextChanges
mod Places
mod RuleCycles
mod RuleDates
mod Turns
