pub mod Naming
pub mod Following
