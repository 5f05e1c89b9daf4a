pub mod Displayed
pub mod Following
pub mod Listening
pub mod Members
pub mod Sweeping
