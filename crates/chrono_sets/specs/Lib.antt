pub mod FiniteSets
pub mod Steps
pub mod Words
