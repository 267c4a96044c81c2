use Rattle.std.proofs.Common.{append_assoc, refl}
use Rattle.shop_text.proofs.cited.Plain.{escape_append}
use Rattle.shop_model.specs.pages.PageText.{block_text}
use Rattle.shop_model.specs.pages.Priced.{totals_text}
use Rattle.shop_draft.proofs.template.Template.totals.Goals as goal

pub returns : goal.returns
unfolding block_text totals_text
returns c drawn =
    rw (
      c.in_ok-put.ensures drawn,
      c.in_ok-money-4.ensures drawn,
      c.in_ok-money-3.ensures drawn,
      c.in_ok-money-2.ensures drawn,
      c.in_ok-money.ensures drawn,
    )
    (simp (append_assoc, escape_append) refl)
