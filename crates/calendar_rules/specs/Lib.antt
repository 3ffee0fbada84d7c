pub mod TimedRuleTexts
pub mod TimedRuleFaults
pub mod Recurrences
pub mod RecurrenceFaults
pub mod Private
