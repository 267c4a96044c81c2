-- Tables that opened with a catalogue and show what was read.
use Rattle.std.specs.Prelude.{◌≡◌, List, [], ◌∷◌, map}
use Rattle.shop_model.specs.declared.tables.Tables.{Tables}
use Rattle.shop_model.specs.lists.Catalogues.{Catalogue, opened}
use Rattle.shop_model.specs.rows.Sound.{Sound}
use Rattle.shop_history.specs.declared.keys.Key.{Key}
use Rattle.shop_attempt.specs.declared.attempts.ReadOf.{ReadOf}
use Rattle.shop_attempt.specs.Reads.{Shows}

-- the keys that were read, in order
abbrev pub keys_of : List ReadOf → List Key
keys_of reads = map (λ r. r.key) reads

-- sound tables that opened with this catalogue and show what was read
pub record Fits (c : Catalogue) (t : Tables) (reads : List ReadOf) : Type 0 where
  pub sound : Sound t
  pub named : opened t ≡ c
  pub shows : Shows t reads

-- each of these rows was shown by some sound tables that opened with the catalogue
abbrev pub AreSeen : Catalogue → List ReadOf → Type 0
AreSeen c [] = Unit {0}
AreSeen c (read ∷ reads) = ((t : Tables) × Fits c t (read ∷ [])) × AreSeen c reads
