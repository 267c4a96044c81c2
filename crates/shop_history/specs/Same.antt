-- Whether two rows are equal.
use Rattle.std.specs.Prelude.{◌≡◌}
use Rattle.shop_history.specs.declared.keys.Row.{Row}
use Rattle.shop_history.specs.contracts.keys.Row.{the_field}
use Rattle.shop_log.proofs.cited.Codes.{decided_by}

-- two rows are equal or not
unfoldable pub same : (one other : Row) → Dec (one ≡ other)
same one other = decided_by the_field.row.coded the_field.into the_field.into_one one other
