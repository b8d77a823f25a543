pub mod Laws
pub mod Moved
pub mod Determined
