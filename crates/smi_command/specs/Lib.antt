pub mod Hearing
pub mod KnownGrant
pub mod Link
pub mod OneLink
pub mod Order
pub mod Pending
pub mod Settlements
