-- Days counted from 1970-01-01, in the Gregorian calendar.
use Rattle.std.specs.Prelude.{ℕ, zero, suc, ◌+◌, ◌-◌, ◌/◌, ◌%◌, nat_lt, List, ◌∷◌, ◌++◌, if◌then◌else◌, pos}
use Rattle.jiff_core.specs.Calendar.{days_in_year, days_in_month}
use Rattle.shop_text.specs.Money.{two_digits}

-- a year, and a day of it counted from 0
pub record YearDay : Type 0 where
  pub year : ℕ
  pub day : ℕ

-- where a day lies that is counted from 1 January of a year; over so many years at most
unfoldable pub year_day : ℕ → ℕ → ℕ → YearDay
year_day zero year day = record { year = year; day = day }
year_day (suc more) year day =
    if nat_lt day (days_in_year (pos year)) then record { year = year; day = day }
    else year_day more (year + 1) (day - days_in_year (pos year))

-- a month counted from 1, and a day of it counted from 1
pub record MonthDay : Type 0 where
  pub month : ℕ
  pub day : ℕ

-- where a day of a year lies that is counted from the start of a month; over so many months at most
unfoldable pub month_day : ℕ → ℕ → ℕ → ℕ → MonthDay
month_day zero year month day = record { month = month; day = day + 1 }
month_day (suc more) year month day =
    if nat_lt day (days_in_month (pos year) month) then record { month = month; day = day + 1 }
    else month_day more year (month + 1) (day - days_in_month (pos year) month)

-- `YYYY-MM-DD`
abbrev pub date_text : ℕ → ℕ → ℕ → List ℕ
date_text year month day =
    two_digits (year / 100) ++ two_digits (year % 100) ++ 45 ∷ two_digits month ++ 45 ∷ two_digits day

-- the date of a day up to 9999-12-31, the day 2,932,896
unfoldable pub day_text : ℕ → List ℕ
day_text day =
    let y = year_day 8029 1970 day in
    let m = month_day 11 y.year 1 y.day in
    date_text y.year m.month m.day
