pub mod Blocks
pub mod Noted
pub mod Text
pub mod Waiting
pub mod Words
