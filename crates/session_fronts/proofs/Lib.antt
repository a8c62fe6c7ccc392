pub mod KnownLaws
pub mod CommitLaws
pub mod PageLaws
pub mod RoundLaws
pub mod FreshLaws
