pub mod Reading
pub mod Writing
pub mod Promises
pub mod Claims
