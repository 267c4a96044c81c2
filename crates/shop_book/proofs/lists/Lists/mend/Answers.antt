use Rattle.std.proofs.Common.{◌≡◌, ℕ, ◌-◌, [], set, get_or, sym, ◌∙◌, ap, subst}
use Rattle.shop_model.specs.asked.AdminAsked.{AdminAsked}
use Rattle.shop_model.specs.declared.item.ItemDetails.{ItemDetails}
use Rattle.shop_model.specs.declared.subject.Subject.{Subject}
use Rattle.shop_model.specs.declared.tables.Tables.{Tables}
use Rattle.shop_model.specs.rows.Limits.{day_of}
use Rattle.shop_model.specs.rows.Rows.{ItemRow}
use Rattle.shop_history.specs.MayChange.{subject_at}
use Rattle.shop_ranking.specs.StandingNewest.{standing_newest}
use Rattle.shop_book.specs.Mending.{IsMended, IsListedAnew}
use Rattle.shop_book.specs.Places.{subject_id}
use Rattle.shop_book.specs.Stored.{stored}
use Rattle.shop_book.proofs.MendedLists.{mended, row_now, its_subject, lists_mended, raised_mended}
use Rattle.shop_book.proofs.lists.Lists.mend.Goals as goal
use Rattle.shop_book.proofs.lists.Lists.mend.Goals.{After-get}

module _ (c : After-get) (t : Tables) (stamp : ℕ) (asked : AdminAsked) (is : IsMended t stamp asked c.args.item c.args.rows.now) where
  -- the row of the item
  row_is : c.index-row.result.now ≡ mended t stamp asked c.args.item c.args.rows.now is
  row_is = row_now t stamp asked c.args.item c.args.rows.now is c.index-row.result.now c.index-row.ensures

  days_are : c.redate.new.self ≡ record c.args.self.now.newest { days = set c.args.self.now.newest.days (c.args.item - 1) (day_of stamp) }
  days_are =
      c.redate.ensures
      ∙ ap (λ (r : ItemRow). record c.args.self.now.newest { days = set c.args.self.now.newest.days (c.args.item - 1) r.published }) (c.row.view_is ∙ row_is)

  subject_is : c.get.result.now.subject ≡ subject_at t c.args.item
  subject_is =
      ap (λ (d : ItemDetails). d.subject) c.get.ensures
      ∙ ap (λ (r : ItemRow). r.subject) (c.row.view_is ∙ row_is)
      ∙ sym (its_subject t stamp asked c.args.item c.args.rows.now is)

pub returns-clause-lists : goal.returns-clause-lists
returns-clause-lists c = λ t stamp asked is are.
    let at = (goal.at.returns-clause-lists c).After-get in
    lists_mended t stamp asked c.args.item c.args.rows.now is c.args.self.now are c.redate.new.self (days_are at t stamp asked is) c.renew_newest.new.lists
    (c.renew_newest.ensures.lists ∙ ap (λ (s : Subject). set c.args.self.now.newest_rows.items (subject_id s - 1) (standing_newest c.redate.new.self s)) (subject_is at t stamp asked is))

pub returns-clause-raised : goal.returns-clause-raised
returns-clause-raised c = λ t stamp asked is are.
    let at = (goal.at.returns-clause-raised c).After-get in
    raised_mended t stamp asked c.args.item c.args.rows.now is c.args.self.now are c.redate.new.self (days_are at t stamp asked is) c.args.number (stored c.args.versions.now) (stored c.renew_newest.new.versions)
    (subst (λ (s : Subject). IsListedAnew (get_or c.args.self.now.newest_rows.items (subject_id s - 1) []) (standing_newest c.redate.new.self s) c.args.number s (stored c.args.versions.now) (stored c.renew_newest.new.versions))
    (subject_is at t stamp asked is) c.renew_newest.ensures.renewed)
