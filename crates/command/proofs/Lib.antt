pub mod Numbers
pub mod Cents
pub mod Lines
pub mod Cutting
pub mod Telling
