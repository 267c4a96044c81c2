-- Links that are dialled, one more.
use Rattle.std.proofs.Common.{◌≡◌, ℕ, zero, suc, ◌+◌, ◌≤◌, Bool, true, false, ◌==◌, refl, sym, ap, ◌∙◌, arith}
use Rattle.std.specs.Prelude.{if◌then◌else◌, option_map}
use Rattle.shop_places.specs.Counts.{counted}
use Rattle.shop_edges.specs.Causes.{count_up}
use Rattle.shop_edges.specs.Links.{opened}
use Rattle.shop_places.specs.Listening.{Listening}
use Rattle.shop_app.specs.declared.status.Status.{Status}
use Rattle.shop_app.specs.declared.status.Status.TheVariants as status
use Rattle.shop_app.specs.Serving.{Dials, IsUnlinked, Listens, dials}

counted_sum : (more n start : ℕ) → counted (more + n) start ≡ counted more (counted n start)
counted_sum zero n start = let none : 0 + n ≡ n = omega arith in ap (λ m. counted m start) none
counted_sum (suc more) n start = let up : suc more + n ≡ suc (more + n) = omega arith in ap (λ m. counted m start) up ∙ ap count_up (counted_sum more n start)

dials_sum : (gateway n : ℕ) → dials gateway (1 + n) ≡ dials gateway 1 + dials gateway n
dials_sum gateway n = by (gateway == 0)
  where
    by : (own : Bool) → (if own then 0 else 1 + n) ≡ (if own then 0 else 1) + (if own then 0 else n)
    by true = refl
    by false = refl

pub dials_none : {I O : Type 0} (gateway : ℕ) (seen : Listening I O) → Dials (dials gateway 0) seen seen
dials_none gateway seen = record { links = refl; later = omega arith; accepted = refl; dialled = by (gateway == 0) }
  where
    by : (own : Bool) → seen.dialled ≡ counted (if own then 0 else 0) seen.dialled
    by true = refl
    by false = refl

pub dials_more : {I O : Type 0} (gateway count next : ℕ) (before mid after : Listening I O) → next ≡ count + 1 → Dials (dials gateway count) before mid → Dials (dials gateway 1) mid after → Dials (dials gateway next) before after
dials_more gateway count next before mid after is first one =
    let up : next ≡ 1 + count = omega (arith, is) in
    let sum : dials gateway next ≡ dials gateway 1 + dials gateway count = ap (dials gateway) up ∙ dials_sum gateway count in
    record {
      links = one.links ∙ first.links;
      later = omega (arith, first.later, one.later);
      accepted = one.accepted ∙ first.accepted;
      dialled = one.dialled ∙ ap (counted (dials gateway 1)) first.dialled ∙ sym (counted_sum (dials gateway 1) (dials gateway count) before.dialled) ∙ ap (λ n. counted n before.dialled) (sym sum);
    }

-- a port was opened before
pub listens_by : {I O : Type 0} (count : ℕ) (before mid after : Listening I O) → mid.links ≡ option_map opened before.links → before.faults ≤ mid.faults → mid.accepted ≡ before.accepted → mid.dialled ≡ before.dialled
    → Dials count mid after → Listens count before after
listens_by count before mid after links later accepted dialled dials = record {
  links = dials.links ∙ links;
  later = omega (arith, later, dials.later);
  accepted = dials.accepted ∙ accepted;
  dialled = dials.dialled ∙ ap (counted count) dialled;
}

pub unlinked_later : (before mid now : ℕ) (why : Status) → before ≤ mid → IsUnlinked mid now why → IsUnlinked before now why
unlinked_later before mid now status.NetworkFault later is = omega (arith, later, is)
unlinked_later before mid now status.Memory later is = tt
unlinked_later before mid now status.Done later is = absurd is
unlinked_later before mid now status.Unserved later is = absurd is
unlinked_later before mid now status.BadWords later is = absurd is
unlinked_later before mid now status.ReadFault later is = absurd is
unlinked_later before mid now status.WriteFault later is = absurd is
unlinked_later before mid now status.WorkerFault later is = absurd is
unlinked_later before mid now status.DiskFault later is = absurd is
unlinked_later before mid now status.NotThisJournal later is = absurd is
