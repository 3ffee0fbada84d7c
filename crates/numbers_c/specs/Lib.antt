pub mod Answers
pub mod Arguments
pub mod DateTimes
pub mod Texts
