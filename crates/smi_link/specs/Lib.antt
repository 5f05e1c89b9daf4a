pub mod Link
pub mod Memory
pub mod Own
pub mod Patience
pub mod Sources
pub mod Udp
