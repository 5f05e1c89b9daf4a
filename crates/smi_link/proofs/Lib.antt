pub mod Cut
pub mod Given
pub mod Whole
