pub mod Sheet
pub mod Promises
pub mod Claims
pub mod SetA
