pub mod Lines
pub mod Parts
pub mod ScenarioFacts
pub mod Scenarios
