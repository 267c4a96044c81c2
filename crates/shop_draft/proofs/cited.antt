pub mod PageTexts
pub mod FewDigits
