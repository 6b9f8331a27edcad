pub mod Seats
pub mod Parts
pub mod Mentions
pub mod Discipline
pub mod Changes
pub mod ReadLaws
pub mod WriteLaws
pub mod AddLaws
