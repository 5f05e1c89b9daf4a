pub mod Label
pub mod LabelFound
pub mod Listing
pub mod Mark
pub mod Spoken
pub mod LogCheck
pub mod StoreCopy
pub mod Surroundings
