pub mod Written
pub mod Lines
pub mod Hex
pub mod Determined
