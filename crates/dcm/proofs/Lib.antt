pub mod Head
pub mod Determined
