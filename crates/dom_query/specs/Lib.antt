pub mod Answers
pub mod PlacesModel
pub mod ReadingModel
pub mod WordsModel
