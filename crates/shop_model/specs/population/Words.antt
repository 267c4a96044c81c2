-- Drawn words and the lists that they pick from, this project's own.
-- The tables have numbers: addresses 2, customers 3, authors 4, items 5, orders 6, workers 16, browsers 17.
use Rattle.std.specs.Prelude.{ℕ, ◌+◌, ◌*◌, ◌%◌, ◌^◌, Bool, if◌then◌else◌, List, [], ◌∷◌, length, slice_index_or, codes}
use Rattle.rand_pcg.specs.Lcg.{Lcg, advance, started, increment_of}
use Rattle.rand_pcg.specs.Pcg.{multiplier_64, pcg32}
use Rattle.shop_model.specs.population.Scales.{ScaleRow, is_desk}

-- at the desk a word is a sum
unfoldable pub desk_word : ℕ → ℕ → ℕ → ℕ → ℕ
desk_word seed table row j = (seed + 1009 * table + 101 * row + 13 * j) % 2 ^ 32

-- output j, from 0, of the generator PCG32 (XSH RR 64/32) of a seed and a stream
unfoldable pub pcg_word : ℕ → ℕ → ℕ → ℕ
pcg_word seed stream j =
    (pcg32 (advance 64 multiplier_64 j (started 64 multiplier_64 seed (increment_of 64 stream)))).0

-- word j, from 0, of a row of a table; each row has a stream of its own
unfoldable pub word : ℕ → ScaleRow → ℕ → ℕ → ℕ → ℕ
word seed scale table row j =
    if is_desk scale then desk_word seed table row j else pcg_word seed (table * 2 ^ 40 + row) j

-- what gives the words of a row: at the desk the coming one, else the generator
pub record Drawing : Type 0 where
  pub desk : Bool
  pub coming : ℕ
  pub rng : Lcg

-- word j, from 0, of those still to come
unfoldable pub to_come : Drawing → ℕ → ℕ
to_come d j =
    if d.desk then (d.coming + 13 * j) % 2 ^ 32 else (pcg32 (advance 64 multiplier_64 j d.rng)).0

-- the entry that a word picks
abbrev pub entry : {A : Type 0} → A → List A → ℕ → A
entry none list w = slice_index_or list (w % length list) none

-- what rows are made of: the words of titles, names and publishers
unfoldable pub adjectives : List (List ℕ)
adjectives =
    codes "Amber" ∷ codes "Brave" ∷ codes "Clear" ∷ codes "Distant" ∷ codes "Early"
    ∷ codes "Fair" ∷ codes "Golden" ∷ codes "Hidden" ∷ codes "Iron" ∷ codes "Jade" ∷ codes "Kind"
    ∷ codes "Lost" ∷ codes "Magic" ∷ codes "North" ∷ codes "Open" ∷ codes "Quiet" ∷ []

unfoldable pub nouns : List (List ℕ)
nouns =
    codes "Anchor" ∷ codes "Bridge" ∷ codes "Castle" ∷ codes "Desert" ∷ codes "Engine"
    ∷ codes "Forest" ∷ codes "Garden" ∷ codes "Harbour" ∷ codes "Island" ∷ codes "Journey"
    ∷ codes "Kitchen" ∷ codes "Lantern" ∷ codes "Market" ∷ codes "Night" ∷ codes "Ocean"
    ∷ codes "River" ∷ []

unfoldable pub first_names : List (List ℕ)
first_names =
    codes "Ada" ∷ codes "Ben" ∷ codes "Cora" ∷ codes "Dan" ∷ codes "Eva" ∷ codes "Finn"
    ∷ codes "Gia" ∷ codes "Hugo" ∷ []

unfoldable pub last_names : List (List ℕ)
last_names =
    codes "Abbot" ∷ codes "Baker" ∷ codes "Carter" ∷ codes "Dixon" ∷ codes "Ellis"
    ∷ codes "Foster" ∷ codes "Grant" ∷ codes "Hale" ∷ codes "Irving" ∷ codes "Jensen"
    ∷ codes "Keller" ∷ codes "Lowe" ∷ codes "Mason" ∷ codes "Nolan" ∷ codes "Owens"
    ∷ codes "Parker" ∷ []

unfoldable pub publishers : List (List ℕ)
publishers =
    codes "Alder Press" ∷ codes "Birch Press" ∷ codes "Cedar Press" ∷ codes "Elm Press"
    ∷ codes "Fir Press" ∷ codes "Hazel Press" ∷ codes "Larch Press" ∷ codes "Maple Press" ∷ []
