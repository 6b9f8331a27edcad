pub mod ExpressionsModel
pub mod StatementsModel
pub mod Places
