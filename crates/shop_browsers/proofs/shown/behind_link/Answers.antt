use Rattle.std.proofs.Common.{◌+◌, ◌∷◌, ◌==◌, ap, sym, ◌∙◌, arith}
use Rattle.std.specs.List.{before_first}
use Rattle.std.proofs.lemmas.List.{take_rest}
use Rattle.shop_browsers.specs.Scanned.{links_in}
use Rattle.shop_browsers.proofs.Scans.{links_none, link_found}
use Rattle.shop_browsers.proofs.shown.behind_link.Goals as goal

pub returns-in-Some-clause-links : goal.returns-in-Some-clause-links
returns-in-Some-clause-links c =
    let bytes = c.args.bytes.now in
    let first = rw c.requires at c.in-Some.ensures in
    link_found bytes c.in-Some.at first.1 (λ k below. first.0.before k (omega arith) below)
    ∙ ap (λ after. before_first (λ b. b == 34) after ∷ links_in after) (sym (take_rest bytes (c.in-Some.at + 9)))

pub returns-in-None-clause-links : goal.returns-in-None-clause-links
returns-in-None-clause-links c = links_none c.args.bytes.now (rw c.requires at c.in-None.ensures)
