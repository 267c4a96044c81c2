pub mod Digits
pub mod Escaped
pub mod Escapes
pub mod Lists
pub mod Plain
pub mod Syllables
