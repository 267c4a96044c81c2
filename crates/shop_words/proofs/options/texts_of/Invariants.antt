use Rattle.std.proofs.Common.{◌≡◌, ◌<◌, ℕ, List, map, take}
use Rattle.std.specs.List.{slice_index_or}
use Rattle.shop_words.specs.Options.{IsWord}
use Rattle.shop_words.proofs.options.texts_of.Given as goal

abbrev pub invariant-loop-word : goal.invariant-loop-word
invariant-loop-word l = record {
  texts : map (λ s. s.now) l.texts.items ≡ take l.word-index l.words;
  words : (k : ℕ) (d : List ℕ) → k < l.word-index → IsWord (slice_index_or l.words k d);
}
