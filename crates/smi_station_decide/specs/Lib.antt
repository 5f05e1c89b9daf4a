pub mod Asked
pub mod Begun
pub mod Decided
pub mod Handing
pub mod Leaving
pub mod Plans
