pub mod Texts
pub mod Head
pub mod Determined
