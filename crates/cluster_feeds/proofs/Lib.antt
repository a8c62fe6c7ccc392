pub mod FedLaws
pub mod PrintedLaws
pub mod UnreadLaws
