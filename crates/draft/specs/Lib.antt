pub mod Faults
pub mod Book
pub mod Held
pub mod Changes
pub mod Reading
