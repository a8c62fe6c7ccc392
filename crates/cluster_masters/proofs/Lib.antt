pub mod Added
pub mod Bases
pub mod BehindLaws
pub mod MasterLaws
pub mod TwoMasters
pub mod WholeLogs
