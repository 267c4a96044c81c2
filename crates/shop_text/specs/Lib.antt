pub mod Days
pub mod Escape
pub mod Extends
pub mod Fold
pub mod Money
pub mod Numbers
pub mod Syllables
pub mod Texts
