mod Cuts
mod Draws
mod LineByLine
pub mod NamedItems
pub mod Prefixes
