pub mod Decided
pub mod Numbers
pub mod Readings
pub mod ScenarioFacts
pub mod Shorts
pub mod Spaces
pub mod Walks
pub mod Whole
