pub mod Command
pub mod Holder
pub mod Keeper
pub mod Outcome
pub mod Rank
pub mod Record
