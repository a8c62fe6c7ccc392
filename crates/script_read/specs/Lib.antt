pub mod Answers
pub mod Kinds
pub mod Heads
pub mod Bodies
pub mod Built
pub mod ScriptText
pub mod Lawful
