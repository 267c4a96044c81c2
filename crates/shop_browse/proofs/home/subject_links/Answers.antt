use Rattle.std.proofs.Common.{append_assoc, append-nil, refl}
use Rattle.shop_model.specs.pages.Home.{subject_links}
use Rattle.shop_browse.proofs.home.subject_links.Goals as goal

pub returns : goal.returns
unfolding subject_links
returns c drawn =
    rw (c.in_ok-subject_link-2.ensures drawn, c.in_ok-subject_link.ensures drawn) (simp (append_assoc, append-nil) refl)
