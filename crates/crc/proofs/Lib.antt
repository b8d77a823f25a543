-- The laws of the CRC, and what they rest on.
pub mod Xor
pub mod Linear
pub mod Laws
pub mod Turns
pub mod Folding
pub mod Products
pub mod Determined
