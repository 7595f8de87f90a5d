pub mod Text
pub mod Numerals
pub mod Promises
