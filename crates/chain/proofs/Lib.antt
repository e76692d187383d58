pub mod ListLaws
pub mod FollowLaws
pub mod MarkLaws
pub mod SumLaws
pub mod RuleLaws
pub mod GoodChainLaws
pub mod SameLaws
