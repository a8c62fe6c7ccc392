pub mod Appended
pub mod FirstMaster
pub mod Reported
pub mod TwoMasters
pub mod WholeLogs
