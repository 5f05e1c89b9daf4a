pub mod Coming
pub mod Left
pub mod Turning
pub mod Made
pub mod Posts
pub mod Tasks
pub mod Running
pub mod Streaming
