-- The bytes that a buffer holds, as it changes.
use Rattle.std.proofs.Common.{◌≡◌, ℕ, ◌+◌, ◌-◌, ◌≤◌, List, ◌++◌, take, drop, replicate, length, length-append, refl, sym, ap, ◌∙◌, subst, arith}
use Rattle.std.proofs.lemmas.List.{length-drop, length-replicate, length-take-le, take-append-le, drop-append-le, drop-take}
use Rattle.std.proofs.Math.Seq.{take-add}
use Rattle.httparse.specs.declared.spans.HeaderSpan.{HeaderSpan}
use Rattle.shop_message.specs.declared.buffer.Prefix.{Prefix}
use Rattle.shop_message.specs.Buffers.{unserved, IsSearched, IsBuffer}
use Rattle.shop_message.proofs.SearchLemmas.{searched-behind}

pub unserved-length : (bytes : List ℕ) (start end : ℕ) → end ≤ length bytes → length (unserved bytes start end) ≡ end - start
unserved-length bytes start end within = omega (arith, length-drop start (take end bytes), length-take-le end bytes within)

-- so many bytes at the front are there
pub unserved-has : (bytes view : List ℕ) (start end len : ℕ) → start ≤ end → end ≤ length bytes → unserved bytes start end ≡ view → len ≤ length view → start + len ≤ end
unserved-has bytes view start end len order within is has = omega (arith, order, has, ap length is, unserved-length bytes start end within)

pub unserved-more : (bytes : List ℕ) (start end n : ℕ) → start ≤ end → end ≤ length bytes → unserved bytes start (end + n) ≡ unserved bytes start end ++ take n (drop end bytes)
unserved-more bytes start end n order within =
    ap (drop start) (take-add end n bytes)
    ∙ drop-append-le start (take end bytes) (take n (drop end bytes)) (omega (arith, order, length-take-le end bytes within))

-- the bytes as they are borrowed
pub unserved-slice : (bytes items view : List ℕ) (start end : ℕ) → start ≤ end → bytes ≡ items → unserved items start end ≡ view → take (end - start) (drop start bytes) ≡ view
unserved-slice bytes items view start end order same is =
    let all : start + (end - start) ≡ end = omega (arith, order) in
    sym (drop-take start (end - start) bytes) ∙ ap (λ n. drop start (take n bytes)) all ∙ ap (λ xs. unserved xs start end) same ∙ is

pub IsBuffer-more : (bytes bytes' : List ℕ) (start end n : ℕ) (searched : Prefix) (fields : List HeaderSpan) → IsBuffer bytes start end searched fields → length bytes ≤ length bytes' → take end bytes' ≡ take end bytes
    → n ≤ length (drop end bytes') → IsBuffer bytes' start (end + n) searched fields
IsBuffer-more bytes bytes' start end n searched fields is size same room = record {
  size = omega (arith, size, is.size);
  order = omega (arith, is.order);
  within = omega (arith, room, length-drop end bytes', size, is.within);
  searched = subst (λ xs. IsSearched xs searched) (sym more) (searched-behind (unserved bytes start end) (take n (drop end bytes')) searched is.searched);
  room = is.room;
}
  where
    more : unserved bytes' start (end + n) ≡ unserved bytes start end ++ take n (drop end bytes')
    more = unserved-more bytes' start end n is.order (omega (arith, is.within, size)) ∙ ap (λ xs. drop start xs ++ take n (drop end bytes')) same

-- moved to the front
pub IsBuffer-moved : (bytes moved : List ℕ) (start end : ℕ) (searched : Prefix) (fields : List HeaderSpan) → IsBuffer bytes start end searched fields → length moved ≡ length bytes
    → take (end - start) moved ≡ unserved bytes start end → IsBuffer moved 0 (end - start) searched fields
IsBuffer-moved bytes moved start end searched fields is size same = record {
  size = omega (arith, size, is.size);
  order = omega arith;
  within = omega (arith, is.within, size);
  searched = subst (λ xs. IsSearched xs searched) (sym same) is.searched;
  room = is.room;
}

-- the bytes that were held, and behind them those that were put there
pub unserved-put : (old now new view : List ℕ) (start end count : ℕ) → start ≤ end → end ≤ length now → now ≡ new → take end new ≡ take end old → unserved old start end ≡ view
    → unserved now start (end + count) ≡ view ++ take count (drop end new)
unserved-put old now new view start end count order within items front is =
    unserved-more now start end count order within
    ∙ ap (λ xs. unserved xs start end ++ take count (drop end xs)) items
    ∙ ap (λ xs. drop start xs ++ take count (drop end new)) front
    ∙ ap (λ xs. xs ++ take count (drop end new)) is

-- room is made behind the bytes that are held, and a piece is put there
module _ (bytes longer now piece : List ℕ) (start end : ℕ) (searched : Prefix) (fields : List HeaderSpan) (is : IsBuffer bytes start end searched fields) (more : longer ≡ bytes ++ replicate (end + length piece - length bytes) 0)
    (size : length now ≡ length longer) (front : take end now ≡ take end longer) where
  long : (length bytes ≤ length now) × (end + length piece ≤ length now)
  long =
      let all : length now ≡ length bytes + (end + length piece - length bytes) =
      size ∙ ap length more ∙ length-append bytes (replicate (end + length piece - length bytes) 0) ∙ ap (λ n. length bytes + n) (length-replicate (end + length piece - length bytes) 0) in
      (omega (arith, all), omega (arith, all))

  same : take end now ≡ take end bytes
  same = front ∙ ap (take end) more ∙ take-append-le end bytes (replicate (end + length piece - length bytes) 0) is.within

  pub IsBuffer-given : IsBuffer now start (end + length piece) searched fields
  IsBuffer-given = IsBuffer-more bytes now start end (length piece) searched fields is long.0 same (omega (arith, long.1, length-drop end now))

  pub unserved-given : (view : List ℕ) → unserved bytes start end ≡ view → take (length piece) (drop end now) ≡ piece → unserved now start (end + length piece) ≡ view ++ piece
  unserved-given view held put = unserved-put bytes now now view start end (length piece) is.order (omega (arith, long.1)) refl same held ∙ ap (λ xs. view ++ xs) put
