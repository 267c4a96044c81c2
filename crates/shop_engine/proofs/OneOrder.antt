-- A cart that was bought is not bought again.
use Rattle.std.proofs.Common.{◌≡◌, ℕ, ◌+◌, Bool, List, [], ◌∷◌, ◌++◌, All, Option, Some, None, IsSome, Ok, refl, sym, ◌∙◌, ap, subst, arith, append-nil}
use Rattle.std.specs.Prelude.{flat_map, sum_by}
use Rattle.std.proofs.lemmas.List.Elements.{All-append, All-head, All-nil, All-tail}
use Rattle.shop_log.proofs.cited.Legality.{legal_last}
use Rattle.shop_model.specs.declared.page.Page.{Page}
use Rattle.shop_model.specs.declared.requests.Request.{Request}
use Rattle.shop_model.specs.declared.requests.Request.TheVariants.{BuyConfirm}
use Rattle.shop_model.specs.declared.tables.Tables.{Tables}
use Rattle.shop_model.specs.asked.PurchaseAsked.{PurchaseAsked}
use Rattle.shop_model.specs.asked.Refusals.{page_of}
use Rattle.shop_model.specs.rows.Lookups.{row_numbered}
use Rattle.shop_model.specs.rows.Rows.{CustomerRow}
use Rattle.shop_model.specs.pages.Show.{check, refused_or, show}
use Rattle.shop_model.specs.trade.Buyers.{check_bought}
use Rattle.shop_model.specs.trade.Carts.{first_of}
use Rattle.shop_model.specs.trade.Sales.{Terms, check_known, tables_bought}
use Rattle.shop_history.specs.declared.acts.Act.{Act}
use Rattle.shop_history.specs.declared.acts.Act.TheVariants.{Confirm}
use Rattle.shop_history.specs.declared.acts.Entry.{Entry}
use Rattle.shop_history.specs.Acts.{request_of}
use Rattle.shop_history.specs.Logs.{tables, after, Legal, MayFollow}
use Rattle.shop_history.proofs.cited.MayChange.{who_buys}
use Rattle.shop_history.proofs.cited.Rows.{tables_push}
use Rattle.shop_attempt.specs.Seats.{IsSeat}
use Rattle.shop_http.specs.Requests.{asked}
use Rattle.shop_pages.specs.Replies.{reply}
use Rattle.shop_engine.specs.declared.report.PointKind.{PointKind}
use Rattle.shop_cache.specs.declared.keys.ListKey.{ListKey}
use Rattle.shop_engine.specs.declared.report.PointKind.TheVariants as kind
use Rattle.shop_engine.specs.declared.report.PointKind.TheVariants.{Plain, At, Change, Busy, Full, Denied, GatewayFailed}
use Rattle.shop_engine.specs.Decided.{CauseAs, page_as, tries_alone}
use Rattle.shop_engine.specs.OneOrder.{IsNotSold, LeavesEmpty, OneOrder, no_sale, tables_found}
use Rattle.shop_engine.specs.Seats.{Stays}
use Rattle.shop_engine.specs.Steps.{Step, AreSteps, IsAnswered, IsStep, IsStepFor, decision_of, form_of}
use Rattle.shop_engine.specs.Workers.{Standing}
use Rattle.shop_engine.proofs.ConnectionLemmas.{stays_of}
use Rattle.shop_engine.proofs.Seats.{still_told}
use Rattle.shop_engine.proofs.Emptied.{IsEmptied, bought_empties, log_leaves}

-- what steps made
all_made : (cart : ℕ) (steps : List Step) → All (λ s. All (λ e. LeavesEmpty cart e.act) s.made) steps → All (λ e. LeavesEmpty cart e.act) (flat_map (λ s. s.made) steps)
all_made cart [] all = All-nil (λ (e : Entry). LeavesEmpty cart e.act)
all_made cart (step ∷ steps) all =
    All-append (λ (e : Entry). LeavesEmpty cart e.act) step.made (flat_map (λ (s : Step). s.made) steps)
    (All-head (λ (s : Step). All (λ (e : Entry). LeavesEmpty cart e.act) s.made) step steps all)
    (all_made cart steps (All-tail (λ (s : Step). All (λ (e : Entry). LeavesEmpty cart e.act) s.made) step steps all))

-- parts of a run

steps_split : (answers : ℕ) (from to : Standing) (steps more : List Step) → AreSteps answers from (steps ++ more) to
    → (mid : Standing) × AreSteps answers from steps mid × ((count : ℕ) × AreSteps count mid more to)
steps_split answers from to [] more are = (from, refl, (answers, are))
steps_split answers from to (step ∷ steps) more (next, is, are) =
    let rest = steps_split (answers + 1) next to steps more are in (rest.0, (next, is, rest.1), rest.2)

-- where a caller who is the only one stands after these entries more
record HasMade (from now : Standing) (made : List Entry) : Type 0 where
  opening : now.seat.opening ≡ from.seat.opening
  seen : now.seat.seen ≡ from.seat.seen ++ made
  valid : IsSeat now.seat
  alone : IsSome now.seat.latest

has_made : (from now : Standing) (made : List Entry) (settles moment : ℕ) → Stays from.seat now.seat made settles moment → IsSeat from.seat → IsSome from.seat.latest → HasMade from now made
has_made from now made settles moment stays valid told = record {
  opening = stays.follows.opening;
  seen = stays.alone told;
  valid = stays.follows.valid valid;
  alone = still_told from.seat.latest now.seat.latest moment stays.stamp told;
}

has_run : (answers : ℕ) (from now : Standing) (steps : List Step) → AreSteps answers from steps now → IsSeat from.seat → IsSome from.seat.latest → HasMade from now (flat_map (λ s. s.made) steps)
has_run answers from now steps are valid told = has_made from now (flat_map (λ (s : Step). s.made) steps) (sum_by (λ (s : Step). s.point.tries) steps) now.progress.last (stays_of answers from now steps are) valid told

-- a step that answers a purchase, of a caller who is the only one

module _ (last : Bool) (from to : Standing) (step : Step) (one : PurchaseAsked) (is : IsStep last from step to) (asks : asked step.message ≡ Ok (BuyConfirm one)) (valid : IsSeat from.seat) (told : IsSome from.seat.latest) where
  answered : IsAnswered (form_of step.message last) from step to (BuyConfirm one)
  answered = subst (IsStepFor (form_of step.message last) from step to) asks is

  made : HasMade from to step.made
  made = has_made from to step.made step.point.tries step.point.moment answered.decided.stays valid told

  -- the entry of a change
  changed : (entry : Entry) → step.made ≡ entry ∷ [] → MayFollow from.seat.opening from.seat.seen entry × (tables to.seat.opening to.seat.seen ≡ after (tables from.seat.opening from.seat.seen) entry)
  changed entry made_is =
      let seen : to.seat.seen ≡ from.seat.seen ++ entry ∷ [] = made.seen ∙ ap (λ (l : List Entry). from.seat.seen ++ l) made_is in
      let legal : Legal from.seat.opening (from.seat.seen ++ entry ∷ []) = subst (λ (t : Tables). Legal t (from.seat.seen ++ entry ∷ [])) made.opening (subst (Legal to.seat.opening) seen made.valid.legal) in (
        legal_last (MayFollow from.seat.opening) from.seat.seen entry legal,
        ap (tables to.seat.opening) seen
            ∙ ap (λ (t : Tables). tables t (from.seat.seen ++ entry ∷ [])) made.opening
            ∙ tables_push from.seat.opening from.seat.seen entry,
      )

  buys_empties : (entry : Entry) (act : Act) → entry.act ≡ act → request_of act ≡ BuyConfirm one → check (tables from.seat.opening from.seat.seen) (request_of act) ≡ None
      → IsEmptied (after (tables from.seat.opening from.seat.seen) entry) one.cart
  buys_empties entry (Confirm asked draw auth tax) act_is does passes =
      let terms : Terms = record { auth = auth; tax = tax } in
      let same : asked ≡ one = cc in
      rw act_is
      (subst (λ (a : PurchaseAsked). IsEmptied (tables_bought (tables from.seat.opening from.seat.seen) entry.stamp draw terms asked (row_numbered (tables from.seat.opening from.seat.seen).customers asked.c)) a.cart) same
      (bought_empties (tables from.seat.opening from.seat.seen) entry.stamp draw terms asked (who_buys (tables from.seat.opening from.seat.seen) asked passes)))
  buys_empties entry _ act_is does passes = absurd cc

  -- what was bought is empty
  bought_is : step.point.kind ≡ Change → IsEmptied (tables to.seat.opening to.seat.seen) one.cart
  bought_is bought =
      let cause = subst (CauseAs from.seat to.seat (BuyConfirm one) (decision_of step)) bought answered.decided.cause in
      let both = changed cause.0.entry cause.0.made_is in
      subst (λ (t : Tables). IsEmptied t one.cart) (sym both.1)
      (buys_empties cause.0.entry cause.0.entry.act refl cause.0.does.does both.0.passes)

  -- what is empty is not sold

  refused_is : (customer : Option CustomerRow) → IsEmptied (tables from.seat.opening from.seat.seen) one.cart
      → first_of (check_known customer) (check_bought (row_numbered (tables from.seat.opening from.seat.seen).carts one.cart)) ≡ Some (no_sale customer)
  refused_is None empty = refl
  refused_is (Some customer) empty = ap check_bought empty

  same_tables : step.made ≡ [] → tables to.seat.opening to.seat.seen ≡ tables from.seat.opening from.seat.seen
  same_tables none =
      ap (tables to.seat.opening) (made.seen ∙ ap (λ (l : List Entry). from.seat.seen ++ l) none ∙ append-nil from.seat.seen)
      ∙ ap (λ (t : Tables). tables t from.seat.seen) made.opening

  no_passing : IsEmptied (tables from.seat.opening from.seat.seen) one.cart → check (tables from.seat.opening from.seat.seen) (BuyConfirm one) ≡ None → ⊥
  no_passing empty passes =
      let refused = refused_is (row_numbered (tables from.seat.opening from.seat.seen).customers one.c) empty in cc (refused, passes)

  passes_there : step.made ≡ [] → check (tables to.seat.opening to.seat.seen) (BuyConfirm one) ≡ None → check (tables from.seat.opening from.seat.seen) (BuyConfirm one) ≡ None
  passes_there none passes = subst (λ (t : Tables). check t (BuyConfirm one) ≡ None) (same_tables none) passes

  not_sold_by : (kind : PointKind) → step.point.kind ≡ kind → CauseAs from.seat to.seat (BuyConfirm one) (decision_of step) kind → IsEmptied (tables from.seat.opening from.seat.seen) one.cart
      → IsNotSold step (tables from.seat.opening from.seat.seen) one
  not_sold_by At is_kind cause empty =
      let t : Tables = tables from.seat.opening from.seat.seen in
      let told_page : Page = page_of (no_sale (row_numbered t.customers one.c)) in
      let shows : show (tables to.seat.opening to.seat.seen) (BuyConfirm one) step.point.draw ≡ Some answered.page
      = subst (λ k. page_as to.seat (BuyConfirm one) step.point k ≡ Some answered.page) is_kind answered.decided.shows in
      let refused : show t (BuyConfirm one) step.point.draw ≡ Some told_page = ap (λ o. refused_or o None) (refused_is (row_numbered t.customers one.c) empty) in
      let both : Some told_page ≡ Some answered.page = sym refused ∙ ap (λ (u : Tables). show u (BuyConfirm one) step.point.draw) (sym (same_tables cause.0)) ∙ shows in
      let page_is : answered.page ≡ told_page = cc in
      record {
        kind = is_kind;
        made = cause.0;
        form = form_of step.message last;
        told = answered.reply ∙ ap (λ (p : Page). reply p (form_of step.message last)) page_is;
      }
  not_sold_by Change is_kind cause empty =
      let both = changed cause.0.entry cause.0.made_is in
      absurd (no_passing empty (subst (λ (r : Request). check (tables from.seat.opening from.seat.seen) r ≡ None) cause.0.does.does both.0.passes))
  not_sold_by kind.List is_kind cause empty = absurd (let no : IsSome {T = ListKey} None = cause.asked in cc)
  not_sold_by (Busy conflicts) is_kind cause empty = absurd (omega (arith, cause.0.tries, answered.decided.alone told, ap tries_alone is_kind))
  not_sold_by Full is_kind cause empty = absurd (no_passing empty (passes_there cause.1.0 cause.0.passes))
  not_sold_by (Denied charge reason) is_kind cause empty = absurd (no_passing empty (passes_there cause.1.0 cause.0.passes))
  not_sold_by GatewayFailed is_kind cause empty = absurd (no_passing empty (passes_there cause.1.0 (cause.0.passes told)))
  not_sold_by Plain is_kind cause empty = absurd cause

  not_sold : IsEmptied (tables from.seat.opening from.seat.seen) one.cart → IsNotSold step (tables from.seat.opening from.seat.seen) one
  not_sold = not_sold_by step.point.kind refl answered.decided.cause

pub one_order : OneOrder
one_order answers from to again =
    let behind = steps_split answers from to (again.before ++ again.first ∷ again.between) (again.second ∷ again.after) again.run in
    let here : Standing = behind.0 in
    let ran : HasMade from here (flat_map (λ (s : Step). s.made) (again.before ++ again.first ∷ again.between))
    = has_run answers from here (again.before ++ again.first ∷ again.between) behind.1 again.valid again.alone in
    let front = steps_split answers from here again.before (again.first ∷ again.between) behind.1 in
    let start : Standing = front.0 in
    let first_ran : HasMade from start (flat_map (λ (s : Step). s.made) again.before) = has_run answers from start again.before front.1 again.valid again.alone in
    let next : Standing = front.2.1.0 in
    let first_made : HasMade start next again.first.made = made _ start next again.first again.one front.2.1.1 again.asks_one first_ran.valid first_ran.alone in
    let between : HasMade next here (flat_map (λ (s : Step). s.made) again.between) = has_run _ next here again.between front.2.1.2 first_made.valid first_made.alone in
    let bought : IsEmptied (tables next.seat.opening next.seat.seen) again.one.cart
    = bought_is _ start next again.first again.one front.2.1.1 again.asks_one first_ran.valid first_ran.alone again.bought in
    let empty : IsEmptied (tables next.seat.opening (next.seat.seen ++ flat_map (λ (s : Step). s.made) again.between)) again.one.cart
    = log_leaves next.seat.opening again.one.cart next.seat.seen (flat_map (λ (s : Step). s.made) again.between)
    (subst (Legal next.seat.opening) between.seen (subst (λ (t : Tables). Legal t here.seat.seen) between.opening between.valid.legal))
    (all_made again.one.cart again.between again.stays) bought in
    let found : tables here.seat.opening here.seat.seen ≡ tables_found again = ap (tables here.seat.opening) ran.seen ∙ ap (λ (t : Tables). tables t (from.seat.seen ++ flat_map (λ (s : Step). s.made) (again.before ++ again.first ∷ again.between))) ran.opening in
    let empty_here : IsEmptied (tables here.seat.opening here.seat.seen) again.other.cart
    = subst (λ n. IsEmptied (tables here.seat.opening here.seat.seen) n) (sym again.same)
    (subst (λ (t : Tables). IsEmptied t again.one.cart) (sym (ap (tables here.seat.opening) between.seen ∙ ap (λ (t : Tables). tables t (next.seat.seen ++ flat_map (λ (s : Step). s.made) again.between)) between.opening)) empty) in
    subst (λ (t : Tables). IsNotSold again.second t again.other) found
    (not_sold _ here behind.2.1.0 again.second again.other behind.2.1.1 again.asks_other ran.valid ran.alone empty_here)
