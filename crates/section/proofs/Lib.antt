pub mod Lists
pub mod Headers
pub mod Whole
pub mod Determined
