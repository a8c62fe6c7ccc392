pub mod CountLaws
pub mod MoveLaws
pub mod SiteLaws
pub mod FallenLaws
