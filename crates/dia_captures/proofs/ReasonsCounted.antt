-- The reasons that were met, with one more.
use Rattle.std.proofs.Common.{◌≡◌, ℕ, ◌+◌, ◌<◌, ◌≤◌, ◌||◌, ◌&&◌, ◌==◌, Bool, true, false, List, [], ◌∷◌, ◌++◌, length, map, take, drop, set, get_or, Result, Ok, Err, refl, sym}
use Rattle.std.proofs.Common.{ap, ap₂, subst, ◌∙◌, arith}
use Rattle.std.specs.Prelude.{OnOk, Option, None, if◌then◌else◌}
use Rattle.std.specs.Result.{result_err}
use Rattle.std.specs.List.{list_any}
use Rattle.std.proofs.lemmas.Bool.{and_parts, eq-eqb, eqb-true, false≢true}
use Rattle.std.proofs.lemmas.List.{append-nil, drop-drop, drop-set-lt, drop_all, get_or-drop, length-map, length-set, map_push, take_all}
use Rattle.std.proofs.lemmas.List.Edits.{map_over_more}
use Rattle.std.proofs.lemmas.List.Folds.{list_any_more}
use Rattle.dia_check.specs.declared.Fault.{Fault}
use Rattle.dia_check.specs.declared.Subject.{Subject}
use Rattle.dia_check.specs.declared.Subject.TheVariants.{Nothing, Avp, Wildcard}
use Rattle.dia_check.specs.Reasons.{row_of}
use Rattle.dia_check.proofs.Uniqueness.{reason_at, reason_at-row}
use Rattle.dia_captures.specs.declared.verdicts.Flaw.{Flaw}
use Rattle.dia_captures.specs.declared.verdicts.Flaw.TheVariants as flaw
use Rattle.dia_captures.specs.declared.reasons.Seen.{Seen}
use Rattle.dia_captures.specs.declared.reasons.Met.{Met}
use Rattle.dia_captures.specs.declared.reasons.Reasons.{Reasons}
use Rattle.dia_captures.specs.Counts.{AreCounted, again, again_if, is_same, is_same_subject, most_reasons, once, other_places, others_seen, places, seen, seen_if_any, seen_more, recorded_mets}
use Rattle.dia_captures.specs.Counts.{recorded_reasons}
use Rattle.dia_captures.proofs.Counting.{Each-map, Each-recorded, either_false, is_among, map_each, others_full, others_known, others_new, seen_if_more, seen_new, recorded_full, recorded_known, recorded_new}

-- ---- flaws that are the same are equal

subject_alike : (a b : Subject) → is_same_subject a b ≡ true → a ≡ b
subject_alike Nothing Nothing h = refl
subject_alike Nothing (Avp b) h = absurd (false≢true h)
subject_alike Nothing Wildcard h = absurd (false≢true h)
subject_alike (Avp a) Nothing h = absurd (false≢true h)
subject_alike (Avp a) (Avp b) h =
    let parts = and_parts (a.code == b.code) (a.vendor == b.vendor) h in
    ap₂ (λ (c v : ℕ). Avp (record { code = c; vendor = v })) (eqb-true a.code b.code parts.0) (eqb-true a.vendor b.vendor parts.1)
subject_alike (Avp a) Wildcard h = absurd (false≢true h)
subject_alike Wildcard Nothing h = absurd (false≢true h)
subject_alike Wildcard (Avp b) h = absurd (false≢true h)
subject_alike Wildcard Wildcard h = refl

itself_nat : (n : ℕ) → (n == n) ≡ true
itself_nat n = eq-eqb n n refl

subject_itself : (a : Subject) → is_same_subject a a ≡ true
subject_itself Nothing = refl
subject_itself (Avp a) = ap₂ (λ (x y : Bool). x && y) (itself_nat a.code) (itself_nat a.vendor)
subject_itself Wildcard = refl

fault_alike : (a b : Fault) → is_same (flaw.Fault a) (flaw.Fault b) ≡ true → a ≡ b
fault_alike a b h =
    let first = and_parts (a.place == b.place) ((a.code == b.code) && ((row_of a.reason == row_of b.reason) && is_same_subject a.subject b.subject)) h in
    let second = and_parts (a.code == b.code) ((row_of a.reason == row_of b.reason) && is_same_subject a.subject b.subject) first.1 in
    let third = and_parts (row_of a.reason == row_of b.reason) (is_same_subject a.subject b.subject) second.1 in
    let reason = sym (reason_at-row a.reason) ∙ ap reason_at (eqb-true (row_of a.reason) (row_of b.reason) third.0) ∙ reason_at-row b.reason in
    ap (λ p. record { place = p; code = a.code; reason = a.reason; subject = a.subject }) (eqb-true a.place b.place first.0)
    ∙ ap (λ c. record { place = b.place; code = c; reason = a.reason; subject = a.subject }) (eqb-true a.code b.code second.0)
    ∙ ap (λ r. record { place = b.place; code = b.code; reason = r; subject = a.subject }) reason
    ∙ ap (λ s. record { place = b.place; code = b.code; reason = b.reason; subject = s }) (subject_alike a.subject b.subject third.1)

pub alike : (a b : Flaw) → is_same a b ≡ true → a ≡ b
alike (flaw.Fault a) (flaw.Fault b) h = ap flaw.Fault (fault_alike a b h)
alike (flaw.Fault a) flaw.Truncated h = absurd (false≢true h)
alike (flaw.Fault a) flaw.Trailing h = absurd (false≢true h)
alike (flaw.Fault a) flaw.TooLong h = absurd (false≢true h)
alike (flaw.Fault a) flaw.NotHexadecimal h = absurd (false≢true h)
alike flaw.Truncated (flaw.Fault b) h = absurd (false≢true h)
alike flaw.Truncated flaw.Truncated h = refl
alike flaw.Truncated flaw.Trailing h = absurd (false≢true h)
alike flaw.Truncated flaw.TooLong h = absurd (false≢true h)
alike flaw.Truncated flaw.NotHexadecimal h = absurd (false≢true h)
alike flaw.Trailing (flaw.Fault b) h = absurd (false≢true h)
alike flaw.Trailing flaw.Truncated h = absurd (false≢true h)
alike flaw.Trailing flaw.Trailing h = refl
alike flaw.Trailing flaw.TooLong h = absurd (false≢true h)
alike flaw.Trailing flaw.NotHexadecimal h = absurd (false≢true h)
alike flaw.TooLong (flaw.Fault b) h = absurd (false≢true h)
alike flaw.TooLong flaw.Truncated h = absurd (false≢true h)
alike flaw.TooLong flaw.Trailing h = absurd (false≢true h)
alike flaw.TooLong flaw.TooLong h = refl
alike flaw.TooLong flaw.NotHexadecimal h = absurd (false≢true h)
alike flaw.NotHexadecimal (flaw.Fault b) h = absurd (false≢true h)
alike flaw.NotHexadecimal flaw.Truncated h = absurd (false≢true h)
alike flaw.NotHexadecimal flaw.Trailing h = absurd (false≢true h)
alike flaw.NotHexadecimal flaw.TooLong h = absurd (false≢true h)
alike flaw.NotHexadecimal flaw.NotHexadecimal h = refl

pub itself : (a : Flaw) → is_same a a ≡ true
itself (flaw.Fault a) =
    ap₂ (λ (x y : Bool). x && y) (itself_nat a.place) (ap₂ (λ (x y : Bool). x && y) (itself_nat a.code)
    (ap₂ (λ (x y : Bool). x && y) (itself_nat (row_of a.reason)) (subject_itself a.subject)))
itself flaw.Truncated = refl
itself flaw.Trailing = refl
itself flaw.TooLong = refl
itself flaw.NotHexadecimal = refl

-- ---- one after the other

pub record AreAgain (r : Flaw) (old now : List Met) (i : ℕ) (found : Bool) : Type 0 where
  pub long : length now ≡ length old
  pub left : drop i now ≡ drop i old
  pub are : now ≡ map (again_if r) (take i old) ++ drop i old
  pub is : found ≡ list_any (λ met. is_same met.flaw r) (take i old)

pub AreAgain-none : (r : Flaw) (mets : List Met) → AreAgain r mets mets 0 false
AreAgain-none r mets = record { long = refl; left = refl; are = refl; is = refl }

pub AreAgain-more : (r : Flaw) (old now : List Met) (i : ℕ) (found : Bool) (x y : Met) (b : Bool) → AreAgain r old now i found → i < length now
    → x ≡ get_or now i x → y ≡ again_if r x → b ≡ is_same x.flaw r → AreAgain r old (set now i y) (i + 1) (found || b)
AreAgain-more r old now i found x y b h less is_x is_y is_b =
    let within : i < length old = omega (arith, less, h.long) in
    let same : x ≡ get_or old i x = is_x ∙ sym (get_or-drop i now 0 x ∙ ap (λ (k : ℕ). get_or now k x) (omega arith)) ∙ ap (λ (ms : List Met). get_or ms 0 x) h.left
    ∙ get_or-drop i old 0 x ∙ ap (λ (k : ℕ). get_or old k x) (omega arith) in
    record {
      long = length-set now i y ∙ h.long;
      left = drop-set-lt (i + 1) now i y (omega arith) ∙ drop_next i now old h.left;
      are = ap (set now i) is_y ∙ map_over_more (again_if r) old now i x within h.are is_x;
      is = ap₂ (λ (p q : Bool). p || q) h.is (is_b ∙ ap (λ (m : Met). is_same m.flaw r) same) ∙ sym (list_any_more (λ met. is_same met.flaw r) old i x within);
    }
  where
    drop_next : (i : ℕ) (xs ys : List Met) → drop i xs ≡ drop i ys → drop (i + 1) xs ≡ drop (i + 1) ys
    drop_next i xs ys e = sym (drop-drop 1 i xs) ∙ ap (drop 1) e ∙ drop-drop 1 i ys

pub AreAgain-all : (r : Flaw) (old now : List Met) (i : ℕ) (found : Bool) → AreAgain r old now i found → length old ≤ i
    → (found ≡ list_any (λ met. is_same met.flaw r) old) × (now ≡ map (again_if r) old)
AreAgain-all r old now i found h end = (
  h.is ∙ ap (list_any (λ met. is_same met.flaw r)) (take_all i old end),
  h.are ∙ ap₂ (λ (xs ys : List Met). map (again_if r) xs ++ ys) (take_all i old end) (drop_all i old end) ∙ append-nil (map (again_if r) old),
)

-- ---- one more

map_twice : {A B C : Type 0} (f : B → C) (g : A → B) (xs : List A) → map f (map g xs) ≡ map (λ x. f (g x)) xs
map_twice f g [] = refl
map_twice {C = C} f g (x ∷ xs) = ap (λ (ys : List C). f (g x) ∷ ys) (map_twice f g xs)

any_map : {A B : Type 0} (p : B → Bool) (f : A → B) (xs : List A) → list_any p (map f xs) ≡ list_any (λ x. p (f x)) xs
any_map p f [] = refl
any_map p f (x ∷ xs) = ap (λ (b : Bool). p (f x) || b) (any_map p f xs)

-- where none of them is this reason they stay
pub not_again : (r : Flaw) (mets : List Met) → list_any (λ met. is_same met.flaw r) mets ≡ false → map (again_if r) mets ≡ mets
not_again r [] none = refl
not_again r (m ∷ ms) none =
    let (here, rest) = either_false (is_same m.flaw r) (list_any (λ met. is_same met.flaw r) ms) none in
    ap₂ (λ (x : Met) (xs : List Met). x ∷ xs) (ap (λ (b : Bool). if b then (record { flaw = m.flaw; seen = again m.seen }) else m) here) (not_again r ms rest)

module _ (mets : List (ℕ × Flaw)) (place : ℕ) (r : Flaw) where
  abbrev more : List (ℕ × Flaw)
  more = mets ++ (place, r) ∷ []

  abbrev met : List (ℕ × Flaw) → Flaw → Met
  met ms s = record { flaw = s; seen = seen (places is_same ms s) }

  abbrev recorded : List Flaw
  recorded = recorded_reasons is_same mets

  once_more : (s : Flaw) → seen (places is_same more s) ≡ (if is_same s r then again (seen (places is_same mets s)) else seen (places is_same mets s))
      → again_if r (met mets s) ≡ met more s
  once_more s e = by (is_same s r) ∙ ap (λ (x : Seen). record { flaw = s; seen = x }) (sym e)
    where
      by : (b : Bool) → (if b then (record { flaw = s; seen = again (seen (places is_same mets s)) }) else met mets s)
          ≡ record { flaw = s; seen = if b then again (seen (places is_same mets s)) else seen (places is_same mets s) }
      by true = refl
      by false = refl

  recorded_again : map (again_if r) (recorded_mets mets) ≡ map (met more) recorded
  recorded_again =
      map_twice (again_if r) (met mets) recorded
      ∙ map_each (λ s. again_if r (met mets s)) (met more) recorded
      (Each-map (λ s. seen (places is_same more s) ≡ (if is_same s r then again (seen (places is_same mets s)) else seen (places is_same mets s)))
      (λ s. again_if r (met mets s) ≡ met more s) recorded once_more (Each-recorded is_same alike itself mets place r))

  among : (b : Bool) → list_any (λ met. is_same met.flaw r) (recorded_mets mets) ≡ b → is_among is_same alike itself recorded r ≡ b
  among b is = sym (any_map (λ met. is_same met.flaw r) (met mets) recorded) ∙ is

  pub known_kept : list_any (λ met. is_same met.flaw r) (recorded_mets mets) ≡ true → map (again_if r) (recorded_mets mets) ≡ recorded_mets more
  known_kept known = recorded_again ∙ sym (ap (map (met more)) (recorded_known is_same alike itself mets place r (among true known)))

  pub known_others : list_any (λ met. is_same met.flaw r) (recorded_mets mets) ≡ true → others_seen mets ≡ others_seen more
  known_others known = sym (ap seen_if_any (others_known is_same alike itself mets place r (among true known)))

  module _ (new : list_any (λ met. is_same met.flaw r) (recorded_mets mets) ≡ false) where
    stays : recorded_mets mets ≡ map (met more) recorded
    stays = sym (not_again r (recorded_mets mets) new) ∙ recorded_again

    long : length (recorded_mets mets) ≡ length recorded
    long = length-map recorded (met mets)

    pub full_kept : most_reasons ≤ length (recorded_mets mets) → recorded_mets mets ≡ recorded_mets more
    full_kept full = stays ∙ sym (ap (map (met more)) (recorded_full is_same alike itself mets place r (among false new) (omega (arith, full, long))))

    pub full_others : most_reasons ≤ length (recorded_mets mets) → seen_more place (others_seen mets) ≡ others_seen more
    full_others full =
        sym (ap seen_if_any (others_full is_same alike itself mets place r (among false new) (omega (arith, full, long))) ∙ seen_if_more (other_places is_same mets) place)

    pub new_kept : length (recorded_mets mets) < most_reasons → recorded_mets mets ++ (record { flaw = r; seen = once place }) ∷ [] ≡ recorded_mets more
    new_kept room =
        ap₂ (λ (xs : List Met) (x : Seen). xs ++ (record { flaw = r; seen = x }) ∷ []) stays (sym (seen_new is_same alike itself mets place r (among false new) (omega (arith, room, long))))
        ∙ sym (map_push (met more) recorded r)
        ∙ sym (ap (map (met more)) (recorded_new is_same alike itself mets place r (among false new) (omega (arith, room, long))))

    pub new_others : length (recorded_mets mets) < most_reasons → others_seen mets ≡ others_seen more
    new_others room = sym (ap seen_if_any (others_new is_same alike itself mets place r (among false new) (omega (arith, room, long))))

-- ---- the reasons of a run, with one more

module _ (old new : Reasons) (mets : List (ℕ × Flaw)) (place : ℕ) (r : Flaw) (same : new.refused ≡ old.refused) (h : AreCounted old mets) where
  abbrev is_kept : List Met → Bool
  is_kept kept = list_any (λ met. is_same met.flaw r) kept

  -- one that is kept
  pub counted_known : new.others ≡ old.others → new.kept.items ≡ map (again_if r) old.kept.items → is_kept old.kept.items ≡ true → AreCounted new (mets ++ (place, r) ∷ [])
  counted_known others kept known live =
      let (is, rest) = h (sym same ∙ live) in
      let among_recorded : is_kept (recorded_mets mets) ≡ true = sym (ap is_kept is) ∙ known in
      (kept ∙ ap (map (again_if r)) is ∙ known_kept mets place r among_recorded, others ∙ rest ∙ known_others mets place r among_recorded)

  -- one of which there is none yet: the others stay
  pub counted_same : new.others ≡ old.others → new.kept.items ≡ map (again_if r) old.kept.items → is_kept old.kept.items ≡ false → AreCounted new mets
  counted_same others kept none live =
      let (is, rest) = h (sym same ∙ live) in (kept ∙ not_again r old.kept.items none ∙ is, others ∙ rest)

  pub still_none : new.kept.items ≡ map (again_if r) old.kept.items → is_kept old.kept.items ≡ false → is_kept new.kept.items ≡ false
  still_none kept none = ap is_kept (kept ∙ not_again r old.kept.items none) ∙ none

  -- one for which there is no room
  pub counted_full : is_kept old.kept.items ≡ false → most_reasons ≤ length old.kept.items → new.others ≡ seen_more place old.others → new.kept.items ≡ old.kept.items
      → AreCounted new (mets ++ (place, r) ∷ [])
  counted_full none full others kept live =
      let (is, rest) = h (sym same ∙ live) in
      let not_recorded : is_kept (recorded_mets mets) ≡ false = sym (ap is_kept is) ∙ none in
      let no_room : most_reasons ≤ length (recorded_mets mets) = subst (λ (ms : List Met). most_reasons ≤ length ms) is full in
      (kept ∙ is ∙ full_kept mets place r not_recorded no_room, others ∙ ap (seen_more place) rest ∙ full_others mets place r not_recorded no_room)

-- a new one
pub counted_new : (old new : Reasons) (mets : List (ℕ × Flaw)) (place : ℕ) (r : Flaw) → old.refused ≡ None → AreCounted old mets
    → list_any (λ met. is_same met.flaw r) old.kept.items ≡ false → length old.kept.items < most_reasons → new.others ≡ old.others
    → (new.refused ≡ None → new.kept.items ≡ old.kept.items ++ (record { flaw = r; seen = once place }) ∷ []) → AreCounted new (mets ++ (place, r) ∷ [])
counted_new old new mets place r was_live h none room others kept live =
    let (is, rest) = h was_live in
    let not_recorded : list_any (λ met. is_same met.flaw r) (recorded_mets mets) ≡ false = sym (ap (list_any (λ met. is_same met.flaw r)) is) ∙ none in
    let has_room : length (recorded_mets mets) < most_reasons = subst (λ (ms : List Met). length ms < most_reasons) is room in
    (kept live ∙ ap (λ (ms : List Met). ms ++ (record { flaw = r; seen = once place }) ∷ []) is ∙ new_kept mets place r not_recorded has_room, others ∙ rest ∙ new_others mets place r not_recorded has_room)

-- what was added is there, unless memory was refused
pub pushed : {V E P : Type 0} (r : Result V E) (refused : Option E) → refused ≡ result_err r → OnOk r P → refused ≡ None → P
pushed (Ok v) refused is added live = added
pushed (Err e) refused is added live = absurd cc
