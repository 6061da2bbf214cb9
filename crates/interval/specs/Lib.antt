pub mod Faults
pub mod Naming
pub mod Texts
pub mod Answers
