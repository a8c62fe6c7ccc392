pub mod PageLaws
pub mod MadeLaws
pub mod BaseLaws
pub mod DurableLaws
pub mod SchemaLaws
