pub mod Core
pub mod Lending
pub mod Making
pub mod Readers
pub mod Stirring
pub mod Wanting
