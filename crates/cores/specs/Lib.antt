pub mod Cores
pub mod Promises
