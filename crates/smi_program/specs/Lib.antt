pub mod Ending
pub mod Help
pub mod Lasting
pub mod Named
pub mod Page
