pub mod RunsModel
pub mod StringLiteralsModel
pub mod TokenAtFrontModel
pub mod AnswersModel
