pub mod ChainLaws
pub mod DraftLaws
pub mod InLaws
pub mod MetaLaws
pub mod OwnLaws
