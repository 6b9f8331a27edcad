pub mod LetterCases
pub mod PartsBetween
pub mod FirstPlaces
pub mod SingleScalars
pub mod ByteSearch
pub mod TrimmedEnds
pub mod PlacesFrom
