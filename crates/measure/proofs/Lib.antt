pub mod Distances
pub mod Harmonic
