-- The seconds of a Time as a date, in the Gregorian calendar.
use Rattle.std.specs.Prelude.{◌≡◌, ℕ, zero, suc, ◌+◌, ◌-◌, ◌/◌, ◌%◌, ◌≤◌, ◌==◌, ◌||◌, ◌&&◌, nat_lt, Bool, not, if◌then◌else◌, List, ◌∷◌, ◌++◌, codes}
use Rattle.std.specs.Fmt.{decimal}

-- the seconds since 1 January 1900, 0h UTC. Numbers whose first bit is clear go on where the 32 bits begin again, in 2036 (RFC 6733
-- section 4.3.1)
abbrev pub seconds_of : ℕ → ℕ
seconds_of n = if nat_lt n 2147483648 then n + 4294967296 else n

-- ---- the calendar

abbrev pub is_leap_year : ℕ → Bool
is_leap_year year = (year % 4 == 0) && (not (year % 100 == 0) || (year % 400 == 0))

abbrev pub days_in_year : Bool → ℕ
days_in_year leap = if leap then 366 else 365

-- thirty days have April, June, September and November
abbrev pub days_in_month : Bool → ℕ → ℕ
days_in_month leap month =
    if month == 2 then (if leap then 29 else 28)
    else (if (month == 4) || ((month == 6) || ((month == 9) || (month == 11))) then 30 else 31)

-- the days of the first n years from 1900 on
abbrev pub days_of_years : ℕ → ℕ
days_of_years zero = 0
days_of_years (suc n) = days_of_years n + days_in_year (is_leap_year (1900 + n))

-- the days of the first n months of a year
abbrev pub days_of_months : Bool → ℕ → ℕ
days_of_months leap zero = 0
days_of_months leap (suc n) = days_of_months leap n + days_in_month leap (suc n)

-- the day that so many days come before, from 1 January 1900 on
pub record IsDate (days year month day : ℕ) : Type 0 where
  pub in_calendar : (1900 ≤ year) × (1 ≤ month) × (month ≤ 12) × (1 ≤ day) × (day ≤ days_in_month (is_leap_year year) month)
  pub is_day : days ≡ days_of_years (year - 1900) + days_of_months (is_leap_year year) (month - 1) + (day - 1)

-- ---- the text (RFC 3339 section 5.6)

abbrev pub two_digits : ℕ → List ℕ
two_digits n = if nat_lt n 10 then 48 ∷ decimal n else decimal n

abbrev pub date_text : ℕ → ℕ → ℕ → List ℕ
date_text year month day = decimal year ++ codes "-" ++ two_digits month ++ codes "-" ++ two_digits day

-- of the seconds since 0h
abbrev pub clock_text : ℕ → List ℕ
clock_text seconds = codes "T" ++ two_digits (seconds / 3600) ++ codes ":" ++ two_digits (seconds / 60 % 60) ++ codes ":" ++ two_digits (seconds % 60) ++ codes "Z"

-- the number of a Time, as a date
pub record IsTimeText (n : ℕ) (text : List ℕ) : Type 0 where
  pub year : ℕ
  pub month : ℕ
  pub day : ℕ
  pub is_date : IsDate (seconds_of n / 86400) year month day
  pub parts : text ≡ date_text year month day ++ clock_text (seconds_of n % 86400)

-- it was added
abbrev pub AddsTime : ℕ → List ℕ → List ℕ → Type 0
AddsTime n old new = (text : List ℕ) × IsTimeText n text × (new ≡ old ++ text)
