pub mod Close
pub mod SoFar
