pub mod Deep
pub mod Denied
pub mod Failing
