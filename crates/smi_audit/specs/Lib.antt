pub mod Audited
pub mod Described
pub mod Grown
pub mod Kept
pub mod Merged
pub mod Passed
pub mod Tables
pub mod Teller
