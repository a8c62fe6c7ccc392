pub mod Grants
pub mod Kept
pub mod Snapshots
pub mod Positions
