pub mod Reading
pub mod Writing
pub mod Promises
pub mod RoundTrips
pub mod Enough
