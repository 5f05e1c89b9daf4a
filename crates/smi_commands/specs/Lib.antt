pub mod Answer
pub mod Doubts
pub mod Keeper
pub mod Rows
pub mod Status
pub mod Tellable
