-- By which rate a purchase is taxed, in hundredths of a per cent; this project's own.
use Rattle.std.specs.Prelude.{ℕ}
use Rattle.shop_model.specs.declared.tables.Tables.{Tables}
use Rattle.shop_model.specs.declared.tax.TaxRule.{TaxRule}
use Rattle.shop_model.specs.declared.tax.TaxRule.TheVariants.{Flat, ByCountry}
use Rattle.shop_model.specs.rows.Lookups.{rate_of}

-- one for all countries
abbrev pub flat_rate : ℕ
flat_rate = 825

-- by a rule, for what ships to a country
abbrev pub rate_by : TaxRule → Tables → ℕ → ℕ
rate_by Flat t country = flat_rate
rate_by ByCountry t country = rate_of t country
