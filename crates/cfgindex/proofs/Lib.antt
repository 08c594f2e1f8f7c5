pub mod Bits
pub mod Words
pub mod Joining
pub mod ListTables
pub mod SetBits
