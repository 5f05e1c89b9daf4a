pub mod Fault
pub mod JournalText
pub mod Reading
