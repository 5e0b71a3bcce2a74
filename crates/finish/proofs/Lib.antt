pub mod JoinLaws
pub mod SettleLaws
