pub mod Folds
pub mod Wanted
pub mod AskedRows
pub mod GoodCores
