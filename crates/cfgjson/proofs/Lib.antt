pub mod FormatLines
pub mod LineTexts
pub mod Members
pub mod Places
pub mod Results
