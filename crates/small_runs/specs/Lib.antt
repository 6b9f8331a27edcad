pub mod SmallGiven
