pub mod Reads
pub mod Sets
pub mod Finishes
pub mod Known
