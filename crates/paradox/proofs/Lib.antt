pub mod PackingLaws
pub mod Demand
pub mod RefusalLaws
pub mod CheckLaws
