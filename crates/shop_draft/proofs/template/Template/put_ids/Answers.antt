use Rattle.std.proofs.Common.{append-nil, sym}
use Rattle.shop_draft.specs.Links.{sign_text}
use Rattle.shop_draft.specs.Templates.{filled}
use Rattle.shop_draft.proofs.template.Template.put_ids.Goals as goal

pub put_known_ids-requires : goal.put_known_ids-requires
put_known_ids-requires c = c.is_empty.ensures.some c.if-is_empty.false

pub returns-then-is_empty : goal.returns-then-is_empty
returns-then-is_empty c drawn =
    rw (c.is_empty.ensures.none c.if-is_empty.true drawn (sign_text c.args.sign)) (sym (append-nil (filled drawn c.args.self.now)))
