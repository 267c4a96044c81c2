-- Items that come into the lists at their keys, one key after another.
use Rattle.std.proofs.Common.{◌≡◌, ℕ, ◌+◌, ◌<◌, length, get_or, take, Bool, true, false, ◌||◌, List, [], ◌∷◌, ◌++◌, cond, refl, sym, ap, ◌∙◌, subst, append_assoc, append-nil, bytes_eq, HashMap}
use Rattle.std.specs.Prelude.{Vec}
use Rattle.std.specs.HashMap.{get}
use Rattle.std.specs.List.Sorted.{IsSorted}
use Rattle.std.proofs.lemmas.List.{map-append, take_more}
use Rattle.std.proofs.lemmas.List.Elements.{All-nil, All-head, All-tail, All-push}
use Rattle.std.proofs.lemmas.List.Folds.{list_any-append}
use Rattle.std.proofs.lemmas.Slice.Eq.{bytes_eq-Decides}
use Rattle.shop_search.specs.declared.filing.Filing.{Filing}
use Rattle.shop_search.specs.Filings.{filed_keys, AllFresh, AreReady, AreReadyFor, IsFiling}
use Rattle.shop_search.specs.Growing.{held_at, with_held, Files, HasRoomAt, Widens}
use Rattle.shop_search.specs.Keys.{is_among}
use Rattle.shop_search.specs.Titles.{TitledItem, by_titled}
use Rattle.shop_search.proofs.Filling.{fresh, same_among}

among_last : (q : List ℕ) (keys : List (List ℕ)) (key : List ℕ) → is_among q (keys ++ key ∷ []) ≡ (is_among q keys || (bytes_eq key q || false))
among_last q keys key = list_any-append (λ k. bytes_eq k q) keys (key ∷ [])

neither : (a b : Bool) → (a || (b || false)) ≡ false → (a ≡ false) × (b ≡ false)
neither true b is = cc
neither false true is = cc
neither false false is = (refl, refl)

itself : (key : List ℕ) → bytes_eq key key ≡ true
itself key = (bytes_eq-Decides key key).1 refl

keys_last : (filings : List Filing) (f : Filing) → filed_keys (filings ++ f ∷ []) ≡ filed_keys filings ++ f.key ∷ []
keys_last filings f = map-append (λ (f : Filing). f.key) filings (f ∷ [])

-- before the first key
pub filing_begun : {S Memory : Type 0} {old : HashMap (List ℕ) (Vec TitledItem Memory) S} (item : TitledItem) (filings : List Filing)
    → AreReady old item filings → IsFiling old old item [] filings
filing_begun item filings ready = record {
  done = record { each = λ q. refl; others = λ q none. refl };
  filed = ready.filed;
  fresh = ready.fresh;
  room = ready.room;
}

moved_room : {S Memory : Type 0} {old now : HashMap (List ℕ) (Vec TitledItem Memory) S} (key : List ℕ)
    → get bytes_eq now key ≡ get bytes_eq old key → HasRoomAt old key → HasRoomAt now key
moved_room key same room = record { list = room.list; there = same ∙ room.there; room = room.room }

-- there is room at the next one
pub filing_room : {S Memory : Type 0} {old now : HashMap (List ℕ) (Vec TitledItem Memory) S} (item : TitledItem) (behind : List Filing) (f : Filing) (before : List Filing)
    → IsFiling old now item behind (f ∷ before) → HasRoomAt now f.key
filing_room item behind f before is =
    let among : is_among f.key (filed_keys (f ∷ before)) ≡ true = rw (itself f.key) refl in
    moved_room f.key (is.done.others f.key is.fresh.0) (is.room f.key among)

-- whose list is still as it was
pub filing_sorted : {S Memory : Type 0} {old now : HashMap (List ℕ) (Vec TitledItem Memory) S} (item : TitledItem) (behind : List Filing) (f : Filing) (before : List Filing)
    → IsFiling old now item behind (f ∷ before) → IsSorted by_titled (held_at old f.key) → IsSorted by_titled (held_at now f.key)
filing_sorted {old = old} item behind f before is sorted =
    subst (IsSorted by_titled)
    (sym (is.done.each f.key ∙ ap (λ b. cond b (with_held item (held_at old f.key)) (held_at old f.key)) is.fresh.0)) sorted

among_tail : (key q : List ℕ) (keys : List (List ℕ)) (b : Bool) → bytes_eq key q ≡ b → is_among q keys ≡ true → (b || is_among q keys) ≡ true
among_tail key q keys true is among = refl
among_tail key q keys false is among = among

-- one key more
pub filing_next : {S Memory : Type 0} {old was now : HashMap (List ℕ) (Vec TitledItem Memory) S} (item : TitledItem) (behind : List Filing) (f : Filing) (before : List Filing)
    → IsFiling old was item behind (f ∷ before) → Files was now f.key f.item → IsFiling old now item (behind ++ f ∷ []) before
filing_next {old = old} {was = was} {now = now} item behind f before is files =
    let of_item : f.item ≡ item = All-head (λ (g : Filing). g.item ≡ item) f before is.filed in
    let keys = filed_keys behind in
    record {
      done = record {
        each = λ q. rw (keys_last behind f, among_last q keys f.key)
            (fresh (is_among q keys) (bytes_eq f.key q) (with_held item) (held_at now q) (held_at was q) (held_at old q)
            (λ same. same_among f.key q keys false is.fresh.0 same)
            (subst (λ i. held_at now q ≡ cond (bytes_eq f.key q) (with_held i (held_at was q)) (held_at was q)) of_item (files.each q)) (is.done.each q));
        others = λ q none.
            let parts = neither (is_among q keys) (bytes_eq f.key q) (rw (keys_last behind f, among_last q keys f.key) at none) in
            files.others q parts.1 ∙ is.done.others q parts.0;
      };
      filed = All-tail (λ (g : Filing). g.item ≡ item) f before is.filed;
      fresh = rw (keys_last behind f) is.fresh.1;
      room = λ q among. is.room q (among_tail f.key q (filed_keys before) (bytes_eq f.key q) refl among);
    }

-- no key yet
pub ready_none : {S Memory : Type 0} {lists : HashMap (List ℕ) (Vec TitledItem Memory) S} (item : TitledItem) → AreReadyFor lists item [] []
ready_none item = record {
  ready = record { filed = All-nil (λ (g : Filing). g.item ≡ item); fresh = tt; room = λ q among. absurd (cc) };
  among = λ q. refl;
}

fresh_last : (seen : List (List ℕ)) (filings : List Filing) (f : Filing)
    → AllFresh seen filings → is_among f.key (seen ++ filed_keys filings) ≡ false → AllFresh seen (filings ++ f ∷ [])
fresh_last seen [] f all new = (subst (λ keys. is_among f.key keys ≡ false) (append-nil seen) new, tt)
fresh_last seen (g ∷ filings) f all new =
    (all.0, fresh_last (seen ++ g.key ∷ []) filings f all.1 (subst (λ keys. is_among f.key keys ≡ false) (sym (append_assoc seen (g.key ∷ []) (filed_keys filings))) new))

room_last : {S Memory : Type 0} {was now : HashMap (List ℕ) (Vec TitledItem Memory) S} (q key : List ℕ) (b : Bool)
    → bytes_eq key q ≡ b → (b ≡ true → key ≡ q) → HasRoomAt now key
    → (b ≡ false → get bytes_eq now q ≡ get bytes_eq was q) → (b ≡ false → HasRoomAt was q) → HasRoomAt now q
room_last {now = now} q key true is same room others before = subst (HasRoomAt now) (same refl) room
room_last q key false is same room others before = moved_room q (others refl) (before refl)

among_but_last : (a b : Bool) → (a || (b || false)) ≡ true → b ≡ false → a ≡ true
among_but_last true b is apart = refl
among_but_last false true is apart = cc
among_but_last false false is apart = cc

-- one key more, which is new
ready_more : {S Memory : Type 0} {was now : HashMap (List ℕ) (Vec TitledItem Memory) S} (item : TitledItem) (keys : List (List ℕ)) (filings : List Filing) (f : Filing)
    → AreReadyFor was item keys filings → is_among f.key keys ≡ false → f.item ≡ item
    → Widens was now f.key → HasRoomAt now f.key → AreReadyFor now item (keys ++ f.key ∷ []) (filings ++ f ∷ [])
ready_more {was = was} {now = now} item keys filings f is new of_item widens room = record {
  ready = record {
    filed = All-push (λ (g : Filing). g.item ≡ item) filings f is.ready.filed of_item;
    fresh = fresh_last [] filings f is.ready.fresh (is.among f.key ∙ new);
    room = λ q among.
        room_last {was = was} q f.key (bytes_eq f.key q) refl (bytes_eq-Decides f.key q).0 room (widens.others q)
        (λ apart. is.ready.room q (among_but_last (is_among q (filed_keys filings)) (bytes_eq f.key q)
        (sym (among_last q (filed_keys filings) f.key) ∙ ap (is_among q) (sym (keys_last filings f)) ∙ among) apart));
  };
  among = λ q. ap (is_among q) (keys_last filings f) ∙ among_last q (filed_keys filings) f.key
      ∙ ap (λ b. b || (bytes_eq f.key q || false)) (is.among q) ∙ sym (among_last q keys f.key);
}

or_seen : (a b : Bool) → (b ≡ true → a ≡ true) → a ≡ (a || (b || false))
or_seen true b seen = refl
or_seen false true seen = seen refl
or_seen false false seen = refl

-- one that came before
ready_passed : {S Memory : Type 0} {lists : HashMap (List ℕ) (Vec TitledItem Memory) S} (item : TitledItem) (keys : List (List ℕ)) (key : List ℕ) (filings : List Filing)
    → AreReadyFor lists item keys filings → is_among key keys ≡ true → AreReadyFor lists item (keys ++ key ∷ []) filings
ready_passed item keys key filings is old = record {
  ready = is.ready;
  among = λ q. is.among q ∙ or_seen (is_among q keys) (bytes_eq key q) (λ same. same_among key q keys true old same) ∙ sym (among_last q keys key);
}

-- one key more of some keys
pub ready_next : {S Memory : Type 0} {was now : HashMap (List ℕ) (Vec TitledItem Memory) S} (item : TitledItem) (keys : List (List ℕ)) (i : ℕ) (key : List ℕ)
    (filings more : List Filing) (f : Filing)
    → i < length keys → key ≡ get_or keys i key → f ≡ record { key = key; item = item } → more ≡ filings ++ f ∷ []
    → is_among key (take i keys) ≡ false → Widens was now key → HasRoomAt now key
    → AreReadyFor was item (take i keys) filings → AreReadyFor now item (take (i + 1) keys) more
ready_next {now = now} item keys i key filings more f within here is pushed new widens room ready =
    let made = ready_more item (take i keys) filings (record { key = key; item = item }) ready new refl widens room in
    subst (λ (fs : List Filing). AreReadyFor now item (take (i + 1) keys) fs) (ap (λ (f : Filing). filings ++ f ∷ []) (sym is) ∙ sym pushed)
    (subst (λ (ks : List (List ℕ)). AreReadyFor now item ks (filings ++ record { key = key; item = item } ∷ []))
    (ap (λ (k : List ℕ). take i keys ++ k ∷ []) here ∙ sym (take_more keys i key within)) made)

pub ready_skips : {S Memory : Type 0} {lists : HashMap (List ℕ) (Vec TitledItem Memory) S} (item : TitledItem) (keys : List (List ℕ)) (i : ℕ) (key : List ℕ) (filings : List Filing)
    → i < length keys → key ≡ get_or keys i key → is_among key (take i keys) ≡ true
    → AreReadyFor lists item (take i keys) filings → AreReadyFor lists item (take (i + 1) keys) filings
ready_skips {lists = lists} item keys i key filings within here old ready =
    subst (λ (ks : List (List ℕ)). AreReadyFor lists item ks filings)
    (ap (λ (k : List ℕ). take i keys ++ k ∷ []) here ∙ sym (take_more keys i key within)) (ready_passed item (take i keys) key filings ready old)
