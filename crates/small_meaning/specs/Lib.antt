pub mod Errors
pub mod Rows
pub mod Reached
pub mod Shows
