pub mod Holders
pub mod Lawful
pub mod Records
