pub mod FallLaws
pub mod SinceLaws
pub mod ToldLaws
pub mod LossLaws
pub mod TagLaws
pub mod SeenLaws
