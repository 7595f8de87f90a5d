pub mod Lists
pub mod Chains
pub mod Claims
pub mod Promises
