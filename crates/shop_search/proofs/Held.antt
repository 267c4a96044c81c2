-- What the lists at keys hold after one of them is written.
use Rattle.std.proofs.Common.{◌≡◌, ℕ, ◌<◌, Bool, true, false, cond, List, [], refl, sym, ap, ◌∙◌, subst, bytes_eq, HashMap}
use Rattle.std.specs.Prelude.{Option, Some, option_map, unwrap_or, Vec, vec_len, vec_capacity}
use Rattle.std.specs.HashMap.{get}
use Rattle.std.proofs.lemmas.Slice.Eq.{bytes_eq-Decides}
use Rattle.shop_search.specs.Growing.{held_at, with_held, Files, HasRoomAt, Widens}
use Rattle.shop_search.specs.Titles.{TitledItem}

-- the list at a key, and no other, became this one
abbrev pub Puts : {S Memory : Type 0} → (old new : HashMap (List ℕ) (Vec TitledItem Memory) S) → List ℕ → Vec TitledItem Memory → Type 0
Puts old new key list = (q : List ℕ) → get bytes_eq new q ≡ cond (bytes_eq key q) (Some list) (get bytes_eq old q)

put_by : {S Memory : Type 0} (old new : HashMap (List ℕ) (Vec TitledItem Memory) S) (key q : List ℕ) (list : Vec TitledItem Memory)
    (f : List TitledItem → List TitledItem) (b : Bool)
    → get bytes_eq new q ≡ cond b (Some list) (get bytes_eq old q) → (b ≡ true → key ≡ q) → list.items ≡ f (held_at old key)
    → held_at new q ≡ cond b (f (held_at old q)) (held_at old q)
put_by {Memory = Memory} old new key q list f true now same is =
    ap (λ (l : Option (Vec TitledItem Memory)). unwrap_or (option_map (λ list. list.items) l) []) now
    ∙ is ∙ ap (λ k. f (held_at old k)) (same refl)
put_by {Memory = Memory} old new key q list f false now same is =
    ap (λ (l : Option (Vec TitledItem Memory)). unwrap_or (option_map (λ list. list.items) l) []) now

put_other : {S Memory : Type 0} (old new : HashMap (List ℕ) (Vec TitledItem Memory) S) (key : List ℕ) (list : Vec TitledItem Memory)
    → Puts old new key list → (q : List ℕ) → bytes_eq key q ≡ false → get bytes_eq new q ≡ get bytes_eq old q
put_other old new key list puts q other = puts q ∙ ap (λ b. cond b (Some list) (get bytes_eq old q)) other

-- with the item
pub put_files : {S Memory : Type 0} (old new : HashMap (List ℕ) (Vec TitledItem Memory) S) (key : List ℕ) (item : TitledItem) (list : Vec TitledItem Memory)
    → Puts old new key list → list.items ≡ with_held item (held_at old key) → Files old new key item
put_files old new key item list puts is = record {
  each = λ q. put_by old new key q list (with_held item) (bytes_eq key q) (puts q) (bytes_eq-Decides key q).0 is;
  others = put_other old new key list puts;
}

either_same : {A : Type 0} (b : Bool) (x : A) → cond b x x ≡ x
either_same true x = refl
either_same false x = refl

-- with the same items
pub put_widens : {S Memory : Type 0} (old new : HashMap (List ℕ) (Vec TitledItem Memory) S) (key : List ℕ) (list : Vec TitledItem Memory)
    → Puts old new key list → list.items ≡ held_at old key → Widens old new key
put_widens old new key list puts is = record {
  same = λ q. put_by old new key q list (λ items. items) (bytes_eq key q) (puts q) (bytes_eq-Decides key q).0 is ∙ either_same (bytes_eq key q) (held_at old q);
  others = put_other old new key list puts;
}

-- with room
pub put_room : {S Memory : Type 0} (old new : HashMap (List ℕ) (Vec TitledItem Memory) S) (key : List ℕ) (list : Vec TitledItem Memory)
    → Puts old new key list → vec_len list < vec_capacity list → HasRoomAt new key
put_room old new key list puts room = record {
  list = list;
  there = puts key ∙ ap (λ b. cond b (Some list) (get bytes_eq old key)) ((bytes_eq-Decides key key).1 refl);
  room = room;
}

-- what a list at a key holds
pub held_here : {S Memory : Type 0} (lists : HashMap (List ℕ) (Vec TitledItem Memory) S) (key : List ℕ) (list : Vec TitledItem Memory)
    → get bytes_eq lists key ≡ Some list → held_at lists key ≡ list.items
held_here {Memory = Memory} lists key list there = ap (λ (l : Option (Vec TitledItem Memory)). unwrap_or (option_map (λ list. list.items) l) []) there

one_list : {A : Type 0} (x y : A) → Some x ≡ Some y → x ≡ y
one_list x y same = cc

-- there is room in it
pub room_here : {S Memory : Type 0} (lists : HashMap (List ℕ) (Vec TitledItem Memory) S) (key : List ℕ) (list : Vec TitledItem Memory)
    → HasRoomAt lists key → get bytes_eq lists key ≡ Some list → vec_len list < vec_capacity list
room_here lists key list room there =
    subst (λ l. vec_len l < vec_capacity l) (one_list room.list list (sym room.there ∙ there)) room.room
