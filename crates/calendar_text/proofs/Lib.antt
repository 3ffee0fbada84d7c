mod FoldLemmas
mod FoldBack
mod ShortLines
mod TimesBack
mod WrittenLines
mod WrittenBack
mod PieceLemmas
pub mod PutLemmas
