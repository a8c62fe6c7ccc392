pub mod NumberLaws
pub mod EscapeLemmas
pub mod ValueLaws
pub mod JoinedLaws
pub mod SizeLemmas
pub mod LimitLaws
