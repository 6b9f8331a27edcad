pub mod Limits
pub mod Maps
pub mod OnStage
pub mod Stored
pub mod Written
pub mod WrittenModel
