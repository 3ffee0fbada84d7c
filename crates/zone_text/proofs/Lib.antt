-- All serve this crate's own proofs alone.
mod ChangesBack
mod CutTexts
mod HoursBack
mod NamesWritten
mod NumbersBack
mod RulesBack
mod WrittenAscii
mod ZoneLemmas
