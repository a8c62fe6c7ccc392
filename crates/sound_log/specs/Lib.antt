pub mod Identities
pub mod Sound
pub mod Begun
pub mod Bytes
