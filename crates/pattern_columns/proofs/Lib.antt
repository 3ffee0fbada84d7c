-- All serve this crate's own proofs alone.
mod ColumnBlocks
mod CompactTexts
mod DateOrders
mod LayoutEntries
mod LayoutPatterns
