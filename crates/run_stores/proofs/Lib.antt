pub mod BestLaws
pub mod FallLaws
pub mod FirstLaws
pub mod ReportedLaws
