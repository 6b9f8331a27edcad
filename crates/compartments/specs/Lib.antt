pub mod Actors
pub mod Principals
