pub mod Fronts
pub mod Places
pub mod Changing
pub mod Firsts
pub mod Desks
pub mod Pushes
