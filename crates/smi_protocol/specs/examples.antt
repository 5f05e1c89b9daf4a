pub mod Commands
pub mod Failing
pub mod Grants
pub mod Limits
pub mod Orders
pub mod WideTree
pub mod Words
pub mod WorkedTree
