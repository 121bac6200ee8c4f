-- A number of seconds has one date.
use Rattle.std.proofs.Common.{◌≡◌, ℕ, zero, suc, ◌+◌, ◌-◌, ◌/◌, ◌%◌, ◌<◌, ◌≤◌, ◌++◌, Bool, List, sym, ap, subst, ◌∙◌, arith}
use Rattle.dia_show.specs.Dates.{IsDate, IsTimeText, clock_text, date_text, days_in_month, days_in_year, days_of_months, days_of_years, is_leap_year, seconds_of}
use Rattle.dia_show.proofs.Calendar.{month_more, whole_year, year_more}

-- a count that doesn't fall passes a number once
module _ (f : ℕ → ℕ) (step : (n : ℕ) → f n ≤ f (n + 1)) where
  rises : (k n : ℕ) → f n ≤ f (n + k)
  rises zero n = let e : n ≡ n + 0 = omega arith in omega (arith, ap f e)
  rises (suc k) n = let e : n + suc k ≡ n + k + 1 = omega arith in omega (arith, rises k n, step (n + k), ap f e)

  not_before : (n m x : ℕ) → x < f (n + 1) → f m ≤ x → n < m → ⊥
  not_before n m x to from less =
      let e : n + 1 + (m - (n + 1)) ≡ m = omega (arith, less) in omega (arith, to, from, rises (m - (n + 1)) (n + 1), ap f e)

  one_place : (n m x : ℕ) → f n ≤ x → x < f (n + 1) → f m ≤ x → x < f (m + 1) → n ≡ m
  one_place n m x from to from' to' = omega (arith, not_before n m x to from', not_before m n x to' from)

month_step : (leap : Bool) (n : ℕ) → days_of_months leap n ≤ days_of_months leap (n + 1)
month_step leap n = omega (arith, month_more leap n)

year_step : (n : ℕ) → days_of_years n ≤ days_of_years (n + 1)
year_step n = omega (arith, year_more n)

-- a day of a month is one before the next month
in_month : (leap : Bool) (month day : ℕ) → 1 ≤ month → 1 ≤ day → day ≤ days_in_month leap month
    → days_of_months leap (month - 1) + (day - 1) < days_of_months leap (month - 1 + 1)
in_month leap month day some first last =
    let e : month - 1 + 1 ≡ month = omega (arith, some) in omega (arith, first, last, month_more leap (month - 1), ap (days_in_month leap) e)

-- and of the year
in_year : (leap : Bool) (month day : ℕ) → 1 ≤ month → month ≤ 12 → 1 ≤ day → day ≤ days_in_month leap month
    → days_of_months leap (month - 1) + (day - 1) < days_in_year leap
in_year leap month day some within first last =
    let e : month - 1 + 1 + (12 - month) ≡ 12 = omega (arith, some, within) in
    omega (
      arith,
      in_month leap month day some first last,
      rises (days_of_months leap) (month_step leap) (12 - month) (month - 1 + 1),
      ap (days_of_months leap) e,
      whole_year leap,
    )

before_next_year : (days year month day : ℕ) → IsDate days year month day → days < days_of_years (year - 1900 + 1)
before_next_year days year month day h =
    let e : 1900 + (year - 1900) ≡ year = omega (arith, h.in_calendar.0) in
    let c = h.in_calendar in
    omega (
      arith,
      h.is_day,
      in_year (is_leap_year year) month day c.1 c.2 c.3 c.4,
      year_more (year - 1900),
      ap (λ (y : ℕ). days_in_year (is_leap_year y)) e,
    )

one_year : (days year month day year' month' day' : ℕ) → IsDate days year month day → IsDate days year' month' day' → year ≡ year'
one_year days year month day year' month' day' h k =
    let from : days_of_years (year - 1900) ≤ days = omega (arith, h.is_day) in
    let from' : days_of_years (year' - 1900) ≤ days = omega (arith, k.is_day) in
    let same = one_place days_of_years year_step (year - 1900) (year' - 1900) days from (before_next_year days year month day h) from' (before_next_year days year' month' day' k) in
    omega (arith, same, h.in_calendar.0, k.in_calendar.0)

one_day : (days year month day month' day' : ℕ) → IsDate days year month day → IsDate days year month' day' → (month ≡ month') × (day ≡ day')
one_day days year month day month' day' h k =
    let leap = is_leap_year year in
    let c = h.in_calendar in
    let c' = k.in_calendar in
    let rest : days_of_months leap (month - 1) + (day - 1) ≡ days_of_months leap (month' - 1) + (day' - 1) = omega (arith, h.is_day, k.is_day) in
    let to = in_month leap month day c.1 c.3 c.4 in
    let to' : days_of_months leap (month - 1) + (day - 1) < days_of_months leap (month' - 1 + 1) = omega (arith, rest, in_month leap month' day' c'.1 c'.3 c'.4) in
    let from : days_of_months leap (month - 1) ≤ days_of_months leap (month - 1) + (day - 1) = omega arith in
    let from' : days_of_months leap (month' - 1) ≤ days_of_months leap (month - 1) + (day - 1) = omega (arith, rest) in
    let same = one_place (days_of_months leap) (month_step leap) (month - 1) (month' - 1) (days_of_months leap (month - 1) + (day - 1)) from to from' to' in
    let one_month : month ≡ month' = omega (arith, same, c.1, c'.1) in
    (one_month, omega (arith, rest, ap (days_of_months leap) same, c.3, c'.3))

-- a Time has one text
pub one_time : (n : ℕ) (t u : List ℕ) → IsTimeText n t → IsTimeText n u → t ≡ u
one_time n t u h k =
    let years = one_year _ h.year h.month h.day k.year k.month k.day h.is_date k.is_date in
    let days = one_day _ h.year h.month h.day k.month k.day h.is_date (subst (λ (y : ℕ). IsDate (seconds_of n / 86400) y k.month k.day) (sym years) k.is_date) in
    h.parts ∙ ap (λ (y : ℕ). date_text y h.month h.day ++ clock_text (seconds_of n % 86400)) years
    ∙ ap (λ (m : ℕ). date_text k.year m h.day ++ clock_text (seconds_of n % 86400)) days.0
    ∙ ap (λ (d : ℕ). date_text k.year k.month d ++ clock_text (seconds_of n % 86400)) days.1 ∙ sym k.parts
