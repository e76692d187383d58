pub mod ReplacedLaws
