pub mod Looks
pub mod Record
pub mod SameMarks
pub mod SameRequests
pub mod SameValues
