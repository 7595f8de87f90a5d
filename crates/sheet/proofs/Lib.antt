pub mod CoreTexts
pub mod Short
pub mod Files
pub mod OwnLines
pub mod Opened
pub mod SetAReport
