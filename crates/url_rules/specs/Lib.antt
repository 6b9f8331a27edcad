pub mod Address
pub mod GlobModel
pub mod Globs
pub mod Patterns
pub mod Reads
pub mod Rules
pub mod Same
