-- The dates of Times, in the Gregorian calendar: seconds since 1 January 1900, 0h UTC (RFC 6733 section 4.3.1).
use Rattle.std.specs.Prelude.{ℕ, zero, suc, ◌+◌, ◌-◌, ◌*◌, ◌%◌, ◌^◌, ◌==◌, ◌||◌, ◌&&◌, nat_lt, nat_le, Bool, not, if◌then◌else◌, List, length, take, drop, slice_index, Option, Some, None, option_and_then}
use Rattle.std.specs.Option.{option_map}
use Rattle.dia_text.specs.Numbers.{number_below}

-- ---- the calendar

abbrev pub is_leap_year : ℕ → Bool
is_leap_year year = (year % 4 == 0) && (not (year % 100 == 0) || (year % 400 == 0))

abbrev pub days_in_year : Bool → ℕ
days_in_year leap = if leap then 366 else 365

-- thirty days have April, June, September and November
abbrev pub days_in_month : Bool → ℕ → ℕ
days_in_month leap month =
    if month == 2 then (if leap then 29 else 28)
    else (if (month == 4) || ((month == 6) || ((month == 9) || (month == 11))) then 30 else 31)

-- the days of the first n years from 1900 on
abbrev pub days_of_years : ℕ → ℕ
days_of_years zero = 0
days_of_years (suc n) = days_of_years n + days_in_year (is_leap_year (1900 + n))

-- the days of the first n months of a year
abbrev pub days_of_months : Bool → ℕ → ℕ
days_of_months leap zero = 0
days_of_months leap (suc n) = days_of_months leap n + days_in_month leap (n + 1)

-- the days from 1 January 1900 up to a day of the calendar
abbrev pub days_before : ℕ → ℕ → ℕ → Option ℕ
days_before year month day =
    if nat_le 1900 year && (nat_le 1 month && (nat_le 1 day && nat_le day (days_in_month (is_leap_year year) month)))
    then Some (days_of_years (year - 1900) + days_of_months (is_leap_year year) (month - 1) + (day - 1)) else None

-- ---- the text: YYYY-MM-DDThh:mm:ssZ (RFC 3339 section 5.6)

-- the number below a limit that so many digits from a place on write
abbrev pub digits_at : ℕ → ℕ → ℕ → List ℕ → Option ℕ
digits_at limit place count text = number_below limit (take count (drop place text))

-- the days of YYYY-MM-DD
abbrev pub date_days : List ℕ → Option ℕ
date_days text =
    option_and_then (λ year. option_and_then (λ month. option_and_then (λ day. days_before year month day) (digits_at 32 8 2 text)) (digits_at 13 5 2 text))
    (digits_at 10000 0 4 text)

-- the seconds of hh:mm:ss
abbrev pub clock_seconds : List ℕ → Option ℕ
clock_seconds text =
    option_and_then (λ hour. option_and_then (λ minute. option_map (λ second. hour * 3600 + minute * 60 + second) (digits_at 60 17 2 text)) (digits_at 60 14 2 text))
    (digits_at 24 11 2 text)

abbrev pub has_sign : List ℕ → ℕ → ℕ → Bool
has_sign text place sign = slice_index text place == sign

-- `-`, `-`, `T`, `:`, `:` and `Z` at their places
abbrev pub has_signs : List ℕ → Bool
has_signs text =
    (length text == 20) && (has_sign text 4 45 && (has_sign text 7 45 && (has_sign text 10 84 && (has_sign text 13 58 && (has_sign text 16 58 && has_sign text 19 90)))))

-- the 32 bits of a count of seconds, from 1968 to 2104: they begin again in 2036
abbrev pub in_era : ℕ → Option ℕ
in_era seconds =
    if nat_lt seconds (2 ^ 31) then None
    else if nat_lt seconds (2 ^ 32) then Some seconds
    else if nat_lt seconds (2 ^ 32 + 2 ^ 31) then Some (seconds - 2 ^ 32)
    else None

-- the number of the Time of a date
abbrev pub time_of : List ℕ → Option ℕ
time_of text = if has_signs text then option_and_then (λ days. option_and_then (λ clock. in_era (days * 86400 + clock)) (clock_seconds text)) (date_days text) else None
