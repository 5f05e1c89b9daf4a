pub mod Displays
pub mod Listens
pub mod Listing
pub mod Sweeps
