pub mod Carrying
pub mod Counted
pub mod Edges
pub mod Rising
pub mod Sends
pub mod Service
pub mod Showing
pub mod Turned
