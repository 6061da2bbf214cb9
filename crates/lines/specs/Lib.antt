pub mod Hearing
pub mod Splitting
pub mod Decimals
