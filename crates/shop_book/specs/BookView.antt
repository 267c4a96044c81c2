use Rattle.shop_book.specs.declared.book.Book.TheInside.{Inside}
use Rattle.shop_book.specs.Books.{BookValue}

abbrev pub book_of : Inside → BookValue
book_of i = record { opening = i.opening; log = i.log.items; latest = i.latest }
