-- What searches compare their text with; the names are this project's own.
use Rattle.std.specs.Prelude.{ℕ, List, Option, Some, None, codes, if◌then◌else◌}
use Rattle.std.specs.Str.{bytes_eq}
use Rattle.shop_model.specs.declared.requests.SearchKind.{SearchKind}
use Rattle.shop_model.specs.declared.requests.SearchKind.TheVariants.{Title, Author, Subject}

abbrev pub kind_name : SearchKind → List ℕ
kind_name Title = codes "title"
kind_name Author = codes "author"
kind_name Subject = codes "subject"

-- the kind with a name
abbrev pub kind_of : List ℕ → Option SearchKind
kind_of name =
    if bytes_eq name (kind_name Title) then Some Title else
    (if bytes_eq name (kind_name Author) then Some Author else
    (if bytes_eq name (kind_name Subject) then Some Subject else None))
