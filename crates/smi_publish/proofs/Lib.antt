pub mod Acting
pub mod Conditions
pub mod DeviceNumbers
pub mod FirstConditions
