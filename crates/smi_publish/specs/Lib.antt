pub mod Published
pub mod Publishing
