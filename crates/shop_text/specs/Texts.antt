-- The texts that pages are made of.
pub use Rattle.shop_text.specs.Days.{day_text}
pub use Rattle.shop_text.specs.Escape.{escape}
pub use Rattle.shop_text.specs.Fold.{lower, fold_eq, fold_begins}
pub use Rattle.shop_text.specs.Money.{two_digits, cents_text}
pub use Rattle.shop_text.specs.Syllables.{syllable, digsyl, digsyl_lower}
