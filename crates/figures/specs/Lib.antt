pub mod Triad
