use Rattle.shop_book.specs.declared.solo.Solo.TheInside.{Inside}
use Rattle.shop_book.specs.Solos.{SoloValue}

abbrev pub solo_of : Inside → SoloValue
solo_of i = record { book = i.book; visitor = i.visitor }
