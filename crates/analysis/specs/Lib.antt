pub mod Analysis
pub mod Promises
