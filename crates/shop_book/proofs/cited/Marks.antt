-- What is marked of a book is a mark.
use Rattle.shop_attempt.specs.Marks.{AreMarks}
use Rattle.shop_book.specs.Solos.{SoloValue, marks_of}

pub marks_are : (solo : SoloValue) → AreMarks (marks_of solo) solo.book.log
marks_are solo = record { are = λ front moment mark. record { within = mark.within; behind = mark.behind } }
