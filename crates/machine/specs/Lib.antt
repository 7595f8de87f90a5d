pub mod NoRunIsLater
pub mod Passing
pub mod PassingSample
