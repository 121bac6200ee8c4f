-- The days of years and months.
use Rattle.std.proofs.Common.{◌≡◌, ℕ, suc, ◌+◌, ◌<◌, ◌≤◌, Bool, true, false, refl, ap, ◌∙◌, arith}
use Rattle.dia_show.specs.Dates.{days_in_month, days_in_year, days_of_months, days_of_years, is_leap_year}

pub year_more : (n : ℕ) → days_of_years (n + 1) ≡ days_of_years n + days_in_year (is_leap_year (1900 + n))
year_more n = let e : n + 1 ≡ suc n = omega arith in ap days_of_years e

pub month_more : (leap : Bool) (n : ℕ) → days_of_months leap (n + 1) ≡ days_of_months leap n + days_in_month leap (n + 1)
month_more leap n =
    let e : n + 1 ≡ suc n = omega arith in
    ap (days_of_months leap) e ∙ ap (λ (m : ℕ). days_of_months leap n + days_in_month leap m) (let f : suc n ≡ n + 1 = omega arith in f)

-- a year is its twelve months
pub whole_year : (leap : Bool) → days_of_months leap 12 ≡ days_in_year leap
whole_year true = refl
whole_year false = refl

-- behind a whole month of a year there is another one, where days are left of the year
pub month_left : (leap : Bool) (n rest : ℕ) → n < 12 → days_of_months leap n + rest < days_in_year leap → days_in_month leap (n + 1) ≤ rest → n + 1 < 12
month_left leap n rest within left whole = by (n + 1) refl
  where
    by : (m : ℕ) → m ≡ n + 1 → m < 12
    by m is =
        let last : (m ≡ 12) → ⊥ = λ (twelve : m ≡ 12).
        (let n_is : n + 1 ≡ 12 = omega (arith, is, twelve) in
        let sum : days_of_months leap (n + 1) ≡ days_of_months leap n + days_in_month leap (n + 1) = month_more leap n in
        let all : days_of_months leap (n + 1) ≡ days_in_year leap = ap (days_of_months leap) n_is ∙ whole_year leap in
        omega (arith, sum, all, left, whole)) in
        omega (arith, is, within, last)
