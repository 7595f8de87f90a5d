pub mod Decimals
pub mod WholeLines
pub mod Joined
pub mod Numerals
pub mod Fitting
pub mod Puts
pub mod Lines
