pub mod AskLaws
pub mod LeaderLaws
