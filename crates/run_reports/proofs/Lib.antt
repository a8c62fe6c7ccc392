pub mod LawfulLaws
pub mod SettingLaws
