-- What an item that is added leaves as it was.
use Rattle.std.proofs.Common.{◌≡◌, ℕ, ◌+◌, ◌-◌, Bool, true, false, nat_lt, List, [], ◌∷◌, ◌++◌, length, map, filter, take, ◌⊎◌, inl, inr, ⊎_elim, refl, sym, ◌∙◌, ap, arith, append-nil}
use Rattle.std.specs.Str.{bytes_eq}
use Rattle.std.proofs.lemmas.Bool.{cases_eq, cond-true, cond-false}
use Rattle.std.proofs.lemmas.List.{map-append}
use Rattle.std.proofs.lemmas.List.Elements.{filter-append, All-drop}
use Rattle.shop_model.specs.declared.subject.Subject.{Subject}
use Rattle.shop_model.specs.declared.tables.Tables.{Tables}
use Rattle.shop_model.specs.asked.AddAsked.{AddAsked}
use Rattle.shop_model.specs.lists.Rankings.{newest, best, in_order, in_subject, better, newer, latest_orders, sold_lately, Sale}
use Rattle.shop_model.specs.rows.Limits.{list_limit, counted_orders}
use Rattle.shop_model.specs.rows.Rows.{ItemRow, OrderRow}
use Rattle.shop_model.specs.rows.Sound.{Sound, units_in}
use Rattle.shop_model.specs.rows.Subjects.{subject_name}
use Rattle.shop_model.specs.trade.Adding.{added_item, with_item}
use Rattle.shop_history.specs.declared.acts.Act.TheVariants.{Add}
use Rattle.shop_history.specs.declared.keys.Key.{Key}
use Rattle.shop_history.specs.declared.keys.Key as key
use Rattle.shop_history.specs.declared.keys.Row as row
use Rattle.shop_history.specs.Keys.{row_of, shown, label_of}
use Rattle.shop_history.specs.MayChange.{MayChange}
use Rattle.shop_history.proofs.SaleFrame.{by_test, names_one}
use Rattle.shop_history.proofs.SoundAdding.{never_sold, none_sold}
use Rattle.shop_history.proofs.cited.Places.{row_push_other}

-- an element behind others that fails a test
failing_push : {A : Type 0} (p : A → Bool) (xs : List A) (x : A) → p x ≡ false → filter p (xs ++ x ∷ []) ≡ filter p xs
failing_push {A} p xs x fails = filter-append p xs (x ∷ []) ∙ ap (λ (ys : List A). filter p xs ++ ys) (cond-false (p x) (x ∷ []) [] fails) ∙ append-nil (filter p xs)

module _ (t : Tables) (sound : Sound t) (stamp : ℕ) (asked : AddAsked) where
  abbrev item : ItemRow
  item = added_item t stamp asked

  abbrev now : Tables
  now = with_item t item

  abbrev of : Subject → ItemRow → Bool
  of subject i = bytes_eq (subject_name i.subject) (subject_name subject)

  newest_stays : (subject : Subject) → of subject item ≡ false → newest now subject ≡ newest t subject
  unfolding newest
  newest_stays subject other = ap (λ items. map (λ i. i.id) (take list_limit (in_order newer items))) (failing_push (of subject) t.items item other)

  -- none of it was sold, so it is among no best sold ones

  unsold : sold_lately t item.id ≡ 0
  unfolding sold_lately
  unsold =
      none_sold item.id (latest_orders t.orders)
      (All-drop (λ (o : OrderRow). units_in item.id o.lines ≡ 0) (length t.orders - counted_orders) t.orders (never_sold t item.id sound (omega arith)))

  abbrev sale : ItemRow → Sale
  sale i = record { id = i.id; units = sold_lately t i.id }

  abbrev some : Sale → Bool
  some s = nat_lt 0 s.units

  no_sale : some (sale item) ≡ false
  no_sale = ap (nat_lt 0) unsold

  sales_stay : (subject : Subject) → filter some (map sale (in_subject subject now.items)) ≡ filter some (map sale (in_subject subject t.items))
  sales_stay subject =
      by_test (of subject item)
      (λ (same : of subject item ≡ true).
      ap (λ items. filter some (map sale items)) (filter-append (of subject) t.items (item ∷ []) ∙ ap (λ (is : List ItemRow). in_subject subject t.items ++ is) (cond-true (of subject item) (item ∷ []) [] same))
      ∙ ap (filter some) (map-append sale (in_subject subject t.items) (item ∷ []))
      ∙ failing_push some (map sale (in_subject subject t.items)) (sale item) no_sale)
      (λ (other : of subject item ≡ false). ap (λ items. filter some (map sale items)) (failing_push (of subject) t.items item other))

  best_stays : (subject : Subject) → best now subject ≡ best t subject
  unfolding best sold_lately
  best_stays subject = ap (λ (sales : List Sale). map (λ s. s.id) (take list_limit (in_order better sales))) (sales_stay subject)

  -- what a key shows, unless it may change
  pub add_frame : (any : Key) → MayChange t (Add asked) any ⊎ (row_of now any ≡ row_of t any)
  add_frame (key.TheVariants.Item id) = ⊎_elim
      (λ same. inl (0, omega arith, ap key.TheVariants.Item (sym same)))
      (λ apart. inr (ap (shown row.TheVariants.Item) (row_push_other t.items id item apart)))
      (cases_eq id (length t.items + 1))
  add_frame (key.TheVariants.Label id) = ⊎_elim
      (λ same. inl (1, omega arith, ap key.TheVariants.Label (sym same)))
      (λ apart. inr (ap (shown (λ i. row.TheVariants.Label (label_of t i))) (row_push_other t.items id item apart)))
      (cases_eq id (length t.items + 1))
  add_frame key.TheVariants.Count = inl (2, omega arith, refl)
  add_frame (key.TheVariants.NewIn subject) =
      by_test (of subject item)
      (λ (same : of subject item ≡ true). inl (3, omega arith, ap key.TheVariants.NewIn (names_one asked.subject subject same)))
      (λ (other : of subject item ≡ false). inr (ap row.TheVariants.Items (newest_stays subject other)))
  add_frame (key.TheVariants.BestIn subject) = inr (ap row.TheVariants.Items (best_stays subject))
  add_frame (key.TheVariants.Added search) = inl tt
  add_frame _ = inr refl
