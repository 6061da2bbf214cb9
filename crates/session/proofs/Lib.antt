pub mod Pages
pub mod Obeying
pub mod Scaling
pub mod Columns
pub mod Following
pub mod Transcribing
