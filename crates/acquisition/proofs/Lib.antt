pub mod Together
pub mod SettingLaws
pub mod DraftLaws
pub mod FiringLaws
