pub mod Bad
pub mod Kinds
pub mod Layout
pub mod Message
pub mod Spelling
