pub mod Duration
pub mod StoredLemmas
pub mod StoredDelta
pub mod TimeText
pub mod Time
pub mod Moment
