pub mod Text
pub mod Numbers
pub mod Fractions
pub mod Lists
pub mod Marks
