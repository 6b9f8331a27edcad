pub mod Blanks
pub mod BlanksModel
pub mod Block
pub mod BlockModel
pub mod Lines
pub mod LinesModel
pub mod Same
pub mod Selection
