pub mod Carried
pub mod Linked
pub mod Observed
pub mod Rising
pub mod Served
pub mod Shown
pub mod Told
pub mod Turning
