pub mod Stepping
pub mod TextFields
pub mod Ways
pub mod Promises
