-- Why the laws of a measure hold of the bench's measures: lemmas, each with its proof. No contract cites them, only proofs and the laws of an `impl`.
pub mod Apart
pub mod Sums
pub mod Bounded
