pub mod Nests
pub mod Parts
pub mod ExpressionPartsModel
pub mod ForHeadsModel
