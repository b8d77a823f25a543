pub mod Reads
pub mod Closes
