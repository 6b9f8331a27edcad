pub mod Bytes
pub mod Scripts
pub mod Pages
pub mod Readers
