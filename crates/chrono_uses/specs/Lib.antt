pub mod Logs
pub mod Named
pub mod Workdays
