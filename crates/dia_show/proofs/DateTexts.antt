-- The parts of a date, added one by one.
use Rattle.std.proofs.Common.{◌≡◌, List, ℕ, ◌/◌, ◌%◌, ◌++◌, Result, Ok, Err, if◌then◌else◌, append_assoc, refl, ap, subst, ◌∙◌}
use Rattle.std.specs.Prelude.{OnOk, is_ok}
use Rattle.dia_show.specs.Dates.{seconds_of, IsDate, date_text, clock_text, AddsTime}

pub date_joined : (old t1 t2 t3 year sign month day : List ℕ) → t1 ≡ old ++ year → t2 ≡ t1 ++ sign ++ month → t3 ≡ t2 ++ sign ++ day → t3 ≡ old ++ (year ++ sign ++ month ++ sign ++ day)
date_joined old t1 t2 t3 year sign month day e1 e2 e3 = rw (e3, e2, e1) (simp append_assoc)

pub clock_joined : (old t1 t2 t3 t4 begin hours sign minutes seconds end : List ℕ) → t1 ≡ old ++ begin ++ hours → t2 ≡ t1 ++ sign ++ minutes → t3 ≡ t2 ++ sign ++ seconds → t4 ≡ t3 ++ end
    → t4 ≡ old ++ (begin ++ hours ++ sign ++ minutes ++ sign ++ seconds ++ end)
clock_joined old t1 t2 t3 t4 begin hours sign minutes seconds end e1 e2 e3 e4 = rw (e4, e3, e2, e1) (simp append_assoc)

-- what the last call of a function adds
pub last_pushed : {X E : Type 0} (r : Result X E) (new more same : List ℕ) → new ≡ (if is_ok r then more else same) → OnOk r (new ≡ more)
last_pushed (Ok x) new more same is = is
last_pushed (Err e) new more same is = tt

pub time_added : {X E : Type 0} (n seconds year month day : ℕ) (old one new : List ℕ) (r : Result X E) → seconds ≡ seconds_of n → IsDate (seconds / 86400) year month day
    → one ≡ old ++ date_text year month day → OnOk r (new ≡ one ++ clock_text (seconds % 86400)) → OnOk r (AddsTime n old new)
time_added n seconds year month day old one new (Ok x) is_seconds is_date is_one is_new = (
  date_text year month day ++ clock_text (seconds_of n % 86400),
  record { year = year; month = month; day = day; is_date = subst (λ (s : ℕ). IsDate (s / 86400) year month day) is_seconds is_date; parts = refl },
  is_new ∙ ap (λ (t : List ℕ). t ++ clock_text (seconds % 86400)) is_one ∙ append_assoc old (date_text year month day) (clock_text (seconds % 86400))
      ∙ ap (λ (s : ℕ). old ++ (date_text year month day ++ clock_text (s % 86400))) is_seconds,
)
time_added n seconds year month day old one new (Err e) is_seconds is_date is_one is_new = tt
