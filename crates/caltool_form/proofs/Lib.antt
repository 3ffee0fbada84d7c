-- All serve this crate's own proofs alone.
mod Pieces
mod Progress
mod Cuts
mod Tests
mod Days
mod Years
