pub mod Changing
pub mod Rising
pub mod Seating
pub mod Splitting
pub mod Stepping
pub mod Willing
