pub mod Numbers
pub mod Numerals
pub mod Operators
pub mod Primitives
pub mod Reading
pub mod Spelled
