pub mod Asked
pub mod Carries
pub mod Keeping
pub mod Looks
pub mod Turned
pub mod Turns
