pub mod Sides
pub mod Asked
pub mod Walk
pub mod Begun
pub mod Jobs
pub mod AllJobs
