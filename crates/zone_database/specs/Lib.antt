pub mod Names
pub mod OwnedZones
pub mod ErrorTexts
