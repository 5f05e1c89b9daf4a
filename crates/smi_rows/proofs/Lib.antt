pub mod Appended
pub mod Cutting
pub mod Again
pub mod Laws
pub mod Keys
