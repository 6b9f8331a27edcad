pub mod Below
pub mod Built
pub mod Escapes
pub mod GlobRows
pub mod GlobTests
pub mod ReadParts
pub mod Readings
pub mod Same
