pub mod HourTexts
pub mod ChangeTexts
pub mod NameTexts
pub mod ZoneTexts
pub mod WrittenTexts
