pub mod Faults
pub mod Peers
pub mod Running
pub mod Serving
