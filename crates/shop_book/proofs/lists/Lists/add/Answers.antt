use Rattle.std.proofs.Common.{◌≡◌, ℕ, ◌+◌, ◌-◌, [], length, set, get_or, ◌∙◌, ap, subst, arith}
use Rattle.shop_model.specs.asked.AddAsked.{AddAsked}
use Rattle.shop_model.specs.declared.item.ItemDetails.{ItemDetails}
use Rattle.shop_model.specs.declared.subject.Subject.{Subject}
use Rattle.shop_model.specs.declared.tables.Tables.{Tables}
use Rattle.shop_model.specs.rows.Limits.{day_of}
use Rattle.shop_model.specs.rows.Rows.{ItemRow}
use Rattle.shop_ranking.specs.StandingNewest.{standing_newest}
use Rattle.shop_book.specs.Adding.{IsAdded}
use Rattle.shop_book.specs.Mending.{IsListedAnew}
use Rattle.shop_book.specs.Places.{subject_id}
use Rattle.shop_book.specs.Stored.{stored}
use Rattle.shop_book.proofs.AddedLists.{item, row_came, lists_added, raised_added}
use Rattle.shop_book.proofs.lists.Lists.add.Goals as goal
use Rattle.shop_book.proofs.lists.Lists.add.Goals.{After-get}

module _ (c : After-get) (t : Tables) (stamp : ℕ) (asked : AddAsked) (is : IsAdded t stamp asked c.args.addition c.args.rows.now) where
  -- the row that came
  row_is : c.index-row.result.now ≡ item t stamp asked c.args.addition c.args.rows.now is
  row_is = row_came t stamp asked c.args.addition c.args.rows.now is c.index-row.result.now (c.index-row.ensures ∙ ap (λ n. get_or c.args.rows.now.items.items (n - 1) c.index-row.result.now) (let all : c.len.result ≡ length c.args.rows.now.items.items = omega (arith, c.len.ensures, c.args.rows.now.items.ok.0) in all))

  place_is : c.row.inside.id - 1 ≡ length t.items
  place_is = let id = ap (λ (r : ItemRow). r.id) (c.row.view_is ∙ row_is) in omega (arith, id)

  days_are : c.redate.new.self ≡ record c.args.addition.newest { days = set c.args.addition.newest.days (length t.items) (day_of stamp) }
  days_are =
      c.redate.ensures
      ∙ ap (λ (r : ItemRow). record c.args.addition.newest { days = set c.args.addition.newest.days (r.id - 1) r.published }) (c.row.view_is ∙ row_is)
      ∙ ap (λ n. record c.args.addition.newest { days = set c.args.addition.newest.days n (day_of stamp) }) (let place : length t.items + 1 - 1 ≡ length t.items = omega arith in place)

  subject_is : c.get.result.now.subject ≡ asked.subject
  subject_is = ap (λ (d : ItemDetails). d.subject) c.get.ensures ∙ ap (λ (r : ItemRow). r.subject) (c.row.view_is ∙ row_is)

pub returns-clause-lists : goal.returns-clause-lists
returns-clause-lists c = λ t stamp asked is are.
    let at = (goal.at.returns-clause-lists c).After-get in
    lists_added t stamp asked c.args.addition c.args.rows.now is c.args.self.now are c.redate.new.self (days_are at t stamp asked is) c.renew_newest.new.lists
    (c.renew_newest.ensures.lists ∙ ap (λ (s : Subject). set c.args.self.now.newest_rows.items (subject_id s - 1) (standing_newest c.redate.new.self s)) (subject_is at t stamp asked is))

pub returns-clause-raised : goal.returns-clause-raised
returns-clause-raised c = λ t stamp asked is are.
    let at = (goal.at.returns-clause-raised c).After-get in
    raised_added t stamp asked c.args.addition c.args.rows.now is c.args.self.now are c.redate.new.self (days_are at t stamp asked is) c.args.number (stored c.args.versions.now) (stored c.renew_newest.new.versions)
    (subst (λ (s : Subject). IsListedAnew (get_or c.args.self.now.newest_rows.items (subject_id s - 1) []) (standing_newest c.redate.new.self s) c.args.number s (stored c.args.versions.now) (stored c.renew_newest.new.versions))
    (subject_is at t stamp asked is) c.renew_newest.ensures.renewed)
