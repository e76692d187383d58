pub mod CursorLaws
pub mod AnswerLaws
pub mod RefusalLaws
pub mod Ending
pub mod Stepping
