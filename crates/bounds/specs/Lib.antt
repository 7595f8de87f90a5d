pub mod Loads
pub mod Promises
