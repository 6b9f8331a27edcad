pub mod Collapsing
mod Courses
