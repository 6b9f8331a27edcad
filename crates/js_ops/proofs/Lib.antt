pub mod Division
pub mod Grammar
pub mod Spelling
