-- Writes at another stamp.
use Rattle.std.proofs.Common.{◌≡◌, ℕ, List, [], ◌∷◌, map, refl, ap₂}
use Rattle.std.specs.Prelude.{All}
use Rattle.std.proofs.lemmas.List.Elements.{All-nil, All-cons, All-head, All-tail}
use Rattle.shop_book.specs.declared.puts.Put.{Put}
use Rattle.shop_book.specs.declared.puts.Put.TheVariants as put
use Rattle.shop_book.specs.Puts.{stamped, IsStamped, IsWhole}

-- writes that are as they are at a stamp
pub same_stamped : (stamp : ℕ) (puts : List Put) → All (IsStamped stamp) puts → map (stamped stamp) puts ≡ puts
same_stamped stamp [] are = refl
same_stamped stamp (p ∷ puts) are = ap₂ (λ (q : Put) (qs : List Put). q ∷ qs) (All-head (IsStamped stamp) p puts are) (same_stamped stamp puts (All-tail (IsStamped stamp) p puts are))

-- the text of an address stays with it
one_whole : (stamp : ℕ) (p : Put) → IsWhole p → IsWhole (stamped stamp p)
one_whole stamp (put.Cart cart) whole = tt
one_whole stamp (put.Login id) whole = tt
one_whole stamp (put.Address address text) whole = whole
one_whole stamp (put.Customer customer) whole = tt
one_whole stamp (put.Order order days) whole = tt
one_whole stamp (put.Stock stock) whole = tt
one_whole stamp (put.Item item) whole = tt

pub all_whole : (stamp : ℕ) (puts : List Put) → All IsWhole puts → All IsWhole (map (stamped stamp) puts)
all_whole stamp [] whole = All-nil IsWhole
all_whole stamp (p ∷ puts) whole =
    All-cons IsWhole (stamped stamp p) (map (stamped stamp) puts) (one_whole stamp p (All-head IsWhole p puts whole)) (all_whole stamp puts (All-tail IsWhole p puts whole))
