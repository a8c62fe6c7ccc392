pub mod Identities
pub mod KeptEntries
pub mod Requests
pub mod Steps
