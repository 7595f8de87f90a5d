pub mod Verdicts
pub mod Fields
pub mod Memory
pub mod Rules
pub mod Clash
pub mod Faults
pub mod Written
pub mod Promises
