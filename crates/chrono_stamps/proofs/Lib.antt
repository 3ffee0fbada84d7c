-- All serve this crate's own proofs alone.
mod CutLemmas
mod YearLemmas
mod OffsetLemmas
mod StampLemmas
mod WrittenLemmas
mod MailLemmas
mod MailWordLemmas
mod MailStampLemmas
mod MailTextLemmas
mod NameLemmas
mod DateFormLemmas
mod IsoOffsetLemmas
mod IsoTextLemmas
mod IsoFormLemmas
