pub mod Going
pub mod Lines
pub mod Numbers
pub mod Pieces
pub mod Tellable
