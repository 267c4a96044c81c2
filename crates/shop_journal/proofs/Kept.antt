-- The target of an act's request is read as that request.
use Rattle.std.proofs.Common.{◌≡◌, [], codes}
use Rattle.std.specs.Prelude.{Ok}
use Rattle.shop_http.specs.Requests.{asked_of}
use Rattle.shop_history.specs.declared.acts.Act.{Act}
use Rattle.shop_history.specs.declared.acts.Act.TheVariants.{Cart, Enter, Confirm, Admin, Add}
use Rattle.shop_history.specs.Acts.{request_of, IsInForm}
use Rattle.shop_journal.specs.Targets.{target_of}
use Rattle.shop_journal.proofs.Administration.{add_written, admin_written}
use Rattle.shop_journal.proofs.Buying.{buy_written}
use Rattle.shop_journal.proofs.Carts.{cart_written}
use Rattle.shop_journal.proofs.Purchases.{purchase_written}

pub written_again : (act : Act) → IsInForm act → asked_of (codes "GET") (target_of (request_of act)) [] ≡ Ok (request_of act)
written_again (Cart asked draw) form = cart_written asked form
written_again (Enter asked draw) form = buy_written asked form.0 form.1
written_again (Confirm asked draw auth tax) form = purchase_written asked form
written_again (Admin asked) form = admin_written asked form
written_again (Add asked) form = add_written asked form
