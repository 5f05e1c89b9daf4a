pub mod Cuts
pub mod Each
pub mod Whole
