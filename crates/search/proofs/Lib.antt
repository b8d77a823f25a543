pub mod Sections
pub mod Entries
pub mod Named
pub mod Listed
pub mod Marks
pub mod Determined
