-- The parts of a payload, as they are read.
use Rattle.std.specs.Prelude.{◌≡◌}
use Rattle.shop_history.specs.declared.acts.Entry.{Entry}
use Rattle.shop_history.specs.Acts.{request_of}
use Rattle.shop_journal.specs.declared.reading.Parts.{Parts}
use Rattle.shop_journal.specs.Payloads.{draw_of, tax_of, auth_of}
use Rattle.shop_journal.specs.Targets.{target_of}

-- those of this entry's payload
pub record ArePartsOf (entry : Entry) (parts : Parts) : Type 0 where
  pub caller : parts.caller ≡ entry.caller
  pub number : parts.number ≡ entry.number
  pub stamp : parts.stamp ≡ entry.stamp
  pub draw : parts.draw ≡ draw_of entry.act
  pub tax : parts.tax ≡ tax_of entry.act
  pub auth : parts.auth.now ≡ auth_of entry.act
  pub target : parts.target.now ≡ target_of (request_of entry.act)
