pub mod Working
pub mod Sides
pub mod Lanes
