pub mod Fires
pub mod FiringLists
pub mod DayFirings
pub mod ZonedTexts
pub mod KnownClocks
pub mod Private
