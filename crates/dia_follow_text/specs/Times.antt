-- Times, in nanoseconds.
use Rattle.std.specs.Prelude.{ℕ, ◌+◌, ◌-◌, ◌*◌, ◌/◌, ◌%◌, ◌==◌, ◌&&◌, nat_le, Bool, not, min, if◌then◌else◌, List, ◌++◌, length, take, drop, position, Option, Some, None, codes}
use Rattle.std.specs.List.{fold, list_all}
use Rattle.std.specs.Char.{is_ascii_digit}
use Rattle.std.specs.Fmt.{decimal}

-- the six decimals of so many millionths
abbrev pub six_digits : ℕ → List ℕ
six_digits n = decimal (n / 100000 % 10) ++ decimal (n / 10000 % 10) ++ decimal (n / 1000 % 10) ++ decimal (n / 100 % 10) ++ decimal (n / 10 % 10) ++ decimal (n % 10)

-- seconds, cut to microseconds
abbrev pub seconds : ℕ → List ℕ
seconds n = decimal (n / 1000000000) ++ codes "." ++ six_digits (n % 1000000000 / 1000)

-- how long after another time a time is, where both are known and it doesn't go back
abbrev pub after : Option ℕ → Option ℕ → Option ℕ
after None second = None
after (Some first) None = None
after (Some first) (Some second) = if nat_le first second then Some (second - first) else None

-- ---- reading

-- 1 to so many digits
abbrev pub is_number : ℕ → List ℕ → Bool
is_number most word = not (length word == 0) && nat_le (length word) most && list_all is_ascii_digit word

-- a digit counts at most 9
abbrev pub digit : ℕ → ℕ
digit byte = min (byte - 48) 9

-- the number that digits are
abbrev pub value : List ℕ → ℕ
value word = fold (λ n byte. n * 10 + digit byte) 0 word

abbrev pub digits_of : ℕ → List ℕ → Option ℕ
digits_of most word = if is_number most word then Some (value word) else None

-- how many nanoseconds the last of so many decimals counts
abbrev pub scale : ℕ → ℕ
scale n =
    if n == 1 then 100000000 else (if n == 2 then 10000000 else (if n == 3 then 1000000 else (if n == 4 then 100000 else (if n == 5 then 10000 else (if n == 6 then 1000 else (if n == 7 then 100 else (if n == 8 then 10 else 1)))))))

abbrev pub with_decimals : Option ℕ → Option ℕ → ℕ → Option ℕ
with_decimals None decimals n = None
with_decimals (Some whole) None n = None
with_decimals (Some whole) (Some decimals) n = Some (whole * 1000000000 + decimals * scale n)

abbrev pub whole_time : Option ℕ → Option ℕ
whole_time None = None
whole_time (Some whole) = Some (whole * 1000000000)

-- the nanoseconds of a time: 1 to 10 digits, or 1 to 10 with a point and 1 to 9 after them
abbrev pub time_at : List ℕ → Option ℕ → Option ℕ
time_at word None = whole_time (digits_of 10 word)
time_at word (Some point) = with_decimals (digits_of 10 (take point word)) (digits_of 9 (drop (point + 1) word)) (length (drop (point + 1) word))

abbrev pub time_of : List ℕ → Option ℕ
time_of word = time_at word (position (λ byte. byte == 46) word)
