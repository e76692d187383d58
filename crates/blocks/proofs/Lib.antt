pub mod CountLaws
pub mod ShapeLaws
pub mod RuleLaws
pub mod SameLaws
