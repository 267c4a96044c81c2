use Rattle.std.proofs.Common.{sym}
use Rattle.shop_http.proofs.InteractionLemmas.{none_unless_text}
use Rattle.shop_http.proofs.router.Routes.interaction.Goals as goal

pub returns-in_default-from_utf8 : goal.returns-in_default-from_utf8
returns-in_default-from_utf8 c = sym (none_unless_text c.args.path.now c.in_default-from_utf8.ensures.cases.0)
