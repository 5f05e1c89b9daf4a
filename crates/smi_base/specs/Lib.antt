pub mod Between
pub mod Bytes
pub mod Count
