-- Lines of an answer as a list of accepted lines and the causes take them.
use Rattle.std.proofs.Common.{◌≡◌, ◌∙◌, ℕ, Bool, true, false, cond, List, [], ◌∷◌, ◌++◌, ap, append_assoc, map, refl, subst, sym}
use Rattle.std.specs.Cmp.{IsEquivalence}
use Rattle.std.specs.Prelude.{◌||◌}
use Rattle.std.specs.List.{list_any}
use Rattle.std.proofs.lemmas.List.{map-append}
use Rattle.dia_accepted.specs.declared.accepting.Accepting.{Accepting}
use Rattle.dia_accepted.specs.declared.counting.Causes.{Causes}
use Rattle.dia_accepted.specs.Accepted.{PlainEntry, PlainRecorded}
use Rattle.dia_accepted.specs.Seen.{AreCauses as RecordedCauses, HasSeen as RecordedSeen, is_command as is_recorded_command}
use Rattle.dia_accepted.proofs.Sets.{seen_between}
use Rattle.dia_accepted.specs.Causes.{each_once, has_cause}
use Rattle.dia_accepted.specs.Words.{cause_text}
use Rattle.dia_accepted.proofs.CauseLaws.{cause_laws}
use Rattle.dia_accepted.proofs.Tallies.{once_more}
use Rattle.dia_upgrades.specs.declared.asked.Asked.{Asked}
use Rattle.dia_upgrades.specs.Rows.{AreCauses, FirstLine, HasSeen, Row, first_of, firsts_of, is_command, recorded_of, same_cause, tolds}
use Rattle.dia_upgrades.specs.UnderWay.{firsts_in}

one_recorded : (rows : List Row) (t : Row) → tolds (rows ++ t ∷ []) ≡ tolds rows ++ recorded_of t ∷ []
one_recorded rows t = map-append recorded_of rows (t ∷ [])

-- ---- a line that comes

pub come_seen : (accepting : Accepting) (list : List PlainEntry) (rows : List Row) (t : Row) → RecordedSeen accepting list (tolds rows ++ recorded_of t ∷ []) → HasSeen accepting list (rows ++ t ∷ [])
come_seen accepting list rows t seen = subst (RecordedSeen accepting list) (sym (one_recorded rows t)) seen

pub come_cause : (forgets : Bool) (causes : Causes) (rows : List Row) (t : Row) (command visits : ℕ) → RecordedCauses forgets causes (tolds rows ++ recorded_of t ∷ []) command visits
    → AreCauses forgets causes (rows ++ t ∷ []) command visits
come_cause forgets causes rows t command visits are = subst (λ (recorded : List PlainRecorded). RecordedCauses forgets causes recorded command visits) (sym (one_recorded rows t)) are

-- ---- among others

pub seen_before : (accepting : Accepting) (list : List PlainEntry) (recorded others : List Row) (t : Row) → HasSeen accepting list ((recorded ++ others) ++ t ∷ []) → HasSeen accepting list ((recorded ++ t ∷ []) ++ others)
seen_before accepting list recorded others t seen =
    let all = one_recorded (recorded ++ others) t ∙ ap (λ (xs : List PlainRecorded). xs ++ recorded_of t ∷ []) (map-append recorded_of recorded others) in
    let moved = map-append recorded_of (recorded ++ t ∷ []) others ∙ ap (λ (xs : List PlainRecorded). xs ++ tolds others) (one_recorded recorded t) in
    subst (RecordedSeen accepting list) (sym moved) (seen_between accepting list (tolds recorded) (tolds others) (recorded_of t) (subst (RecordedSeen accepting list) all seen))

pub seen_after : (accepting : Accepting) (list : List PlainEntry) (recorded others : List Row) (t : Row) → HasSeen accepting list ((recorded ++ others) ++ t ∷ []) → HasSeen accepting list (recorded ++ (others ++ t ∷ []))
seen_after accepting list recorded others t seen = subst (HasSeen accepting list) (append_assoc recorded others (t ∷ [])) seen

-- where no line is of a command
pub none_recorded : (place : ℕ) (rows : List Row) → list_any (is_command place) rows ≡ false → list_any (is_recorded_command place) (tolds rows) ≡ false
none_recorded place rows none = same rows ∙ none
  where
    same : (rows : List Row) → list_any (is_recorded_command place) (tolds rows) ≡ list_any (is_command place) rows
    same [] = refl
    same (t ∷ rows) = ap (λ (b : Bool). is_command place t || b) (same rows)

-- ---- first lines

row_laws : IsEquivalence same_cause
row_laws = record {
  refl = λ x. cause_laws.refl (recorded_of x);
  symm = λ x y. cause_laws.symm (recorded_of x) (recorded_of y);
  congr = λ x y z. cause_laws.congr (recorded_of x) (recorded_of y) (recorded_of z);
}

any_cause : (t : Row) (rows : List Row) → list_any (same_cause t) rows ≡ list_any (has_cause (cause_text t.words)) (tolds rows)
any_cause t [] = refl
any_cause t (x ∷ rows) = ap (λ (b : Bool). same_cause t x || b) (any_cause t rows)

first_more : (rows : List Row) (t : Row) → firsts_of (rows ++ t ∷ []) ≡ firsts_of rows ++ cond (list_any (has_cause (cause_text t.words)) (tolds rows)) [] (first_of t ∷ [])
first_more rows t =
    ap (map first_of) (once_more row_laws rows t) ∙ map-append first_of (each_once same_cause rows) (cond (list_any (same_cause t) rows) [] (t ∷ []))
    ∙ ap (λ (xs : List FirstLine). firsts_of rows ++ xs) (by (list_any (same_cause t) rows)) ∙ ap (λ (b : Bool). firsts_of rows ++ cond b [] (first_of t ∷ [])) (any_cause t rows)
  where
    by : (b : Bool) → map first_of (cond b [] (t ∷ [])) ≡ cond b [] (first_of t ∷ [])
    by true = refl
    by false = refl

-- where each cause has one line
pub stored_more : (asked : Asked) (rows : List Row) (t : Row) (old new : List FirstLine) → asked.once ≡ true
    → new ≡ old ++ cond (list_any (has_cause (cause_text t.words)) (tolds rows)) [] (first_of t ∷ []) → old ≡ firsts_in asked rows → new ≡ firsts_in asked (rows ++ t ∷ [])
stored_more asked rows t old new once is before =
    is ∙ ap (λ (o : List FirstLine). o ++ cond (list_any (has_cause (cause_text t.words)) (tolds rows)) [] (first_of t ∷ [])) (before ∙ ap (λ (b : Bool). cond b (firsts_of rows) []) once)
    ∙ sym (first_more rows t) ∙ sym (ap (λ (b : Bool). cond b (firsts_of (rows ++ t ∷ [])) []) once)

-- where it doesn't, none is stored
pub none_stored : (asked : Asked) (rows : List Row) (t : Row) (old : List FirstLine) → asked.once ≡ false → old ≡ firsts_in asked rows → old ≡ firsts_in asked (rows ++ t ∷ [])
none_stored asked rows t old each before = before ∙ ap (λ (b : Bool). cond b (firsts_of rows) []) each ∙ sym (ap (λ (b : Bool). cond b (firsts_of (rows ++ t ∷ [])) []) each)

pub no_firsts : (asked : Asked) → [] ≡ firsts_in asked []
no_firsts asked = by asked.once
  where
    by : (b : Bool) → [] ≡ cond b (firsts_of []) []
    by true = refl
    by false = refl
