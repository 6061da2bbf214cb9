pub mod Apart
pub mod Weights
pub mod Faults
pub mod Harmonic
pub mod Laws
