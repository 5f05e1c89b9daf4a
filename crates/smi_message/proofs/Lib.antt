pub mod Back
pub mod Bytes
pub mod Again
pub mod Laws
