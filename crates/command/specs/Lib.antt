pub mod Faults
pub mod Words
pub mod Forms
pub mod Reading
pub mod Unsigned
pub mod Telling
