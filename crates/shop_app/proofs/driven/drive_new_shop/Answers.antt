use Rattle.std.proofs.Common.{inl, refl}
use Rattle.shop_app.proofs.DriveLemmas.{on_err}
use Rattle.shop_app.proofs.driven.drive_new_shop.Goals as goal

pub returns-in_err-browsers-clause-err : goal.returns-in_err-browsers-clause-err
returns-in_err-browsers-clause-err g c = on_err _ c.from_residual.result (inl refl)

pub returns-in_err-worker-clause-err : goal.returns-in_err-worker-clause-err
returns-in_err-worker-clause-err g c = on_err _ c.from_residual-in_err-worker.result (inl refl)
