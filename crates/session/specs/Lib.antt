pub mod Faults
pub mod Pages
pub mod Answers
pub mod Following
pub mod Transcribing
pub mod Obeying
