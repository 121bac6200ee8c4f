-- What is reported where lines are added, part by part.
use Rattle.std.proofs.Common.{◌≡◌, ℕ, zero, suc, ◌+◌, ◌≤◌, ◌<◌, List, [], ◌∷◌, ◌++◌, length, map, take, Option, Some, None, sym, refl, ap, subst, ◌∙◌, arith, inl, inr, append_assoc, append-nil, add-one}
use Rattle.std.specs.Prelude.{◌⊎◌, OnOk, slice_get}
use Rattle.std.specs.declared.result.Result.{Result}
use Rattle.std.specs.Option.{option_map, option_map_or}
use Rattle.std.proofs.lemmas.Bool.{cases_order}
use Rattle.std.proofs.lemmas.Option.{slice_get_past, slice_get-map}
use Rattle.dia_breaking_levels.specs.declared.line.Line.{Line as LevelLine}
use Rattle.dia_breaking.specs.declared.line.Line.{Line}
use Rattle.dia_breaking.specs.Confirmed.{recorded_of}
use Rattle.dia_breaking.specs.declared.exits.Inner.{Inner}
use Rattle.dia_breaking.specs.declared.exits.Outlook.{Outlook}
use Rattle.dia_breaking.specs.Listing.{Recorded, records, unchecked, AddsRecorded, level_lines, lines_in}
use Rattle.dia_breaking.specs.Orders.{joined, of_each}
use Rattle.std.specs.List.{filter_map}
use Rattle.dia_breaking.proofs.Lists.{filter_map_more}

-- nothing more
pub adds_none : (lines : List Line) → AddsRecorded lines lines []
adds_none lines = sym (append-nil (map records lines))

pub adds_both : (a b c : List Line) (xs ys : List Recorded) → AddsRecorded a b xs → AddsRecorded b c ys → AddsRecorded a c (xs ++ ys)
adds_both a b c xs ys first second = second ∙ ap (λ zs. zs ++ ys) first ∙ append_assoc (map records a) xs ys

-- the part of one place more
pub adds_part : (part : ℕ → List Recorded) (i : ℕ) (a b c : List Line) → AddsRecorded a b (joined part i) → AddsRecorded b c (part i) → AddsRecorded a c (joined part (i + 1))
adds_part part i a b c first second = subst (λ n. AddsRecorded a c (joined part n)) (sym (add-one i)) (adds_both a b c (joined part i) (part i) first second)

module _ {X Y : Type 0} (f : ℕ → X → List Y) (xs : List X) where
  abbrev part_at : ℕ → List Y
  part_at i = option_map_or (f i) (slice_get xs i) []

  -- after the last element there are no parts
  pub joined_past : (i : ℕ) → length xs ≤ i → joined part_at i ≡ of_each f xs
  joined_past zero le = ap (joined part_at) (let e : 0 ≡ length xs = omega (arith, le) in e)
  joined_past (suc i) le = past (cases_order (length xs) (suc i)) (joined_past i)
    where
      past : (length xs ≡ suc i) ⊎ ((length xs < suc i) ⊎ (suc i < length xs)) → (length xs ≤ i → joined part_at i ≡ of_each f xs) → joined part_at (suc i) ≡ of_each f xs
      past (inl e) more = ap (joined part_at) (sym e)
      past (inr (inl less)) more =
          let within : length xs ≤ i = omega (arith, less) in
          ap (λ (o : Option X). joined part_at i ++ option_map_or (f i) o []) (slice_get_past xs i within) ∙ append-nil (joined part_at i) ∙ more within
      past (inr (inr more')) more = absurd (omega (arith, more', le))

pub adds_each : {X : Type 0} (f : ℕ → X → List Recorded) (xs : List X) (i : ℕ) (a b : List Line) → length xs ≤ i → AddsRecorded a b (joined (λ k. option_map_or (f k) (slice_get xs k) []) i)
    → AddsRecorded a b (of_each f xs)
adds_each f xs i a b le adds = adds ∙ ap (λ ys. map records a ++ ys) (joined_past f xs i le)

-- where there is no element there is no part
pub adds_past : {X : Type 0} (f : X → List Recorded) (xs : List X) (i : ℕ) (lines : List Line) → length xs ≤ i → AddsRecorded lines lines (option_map_or f (slice_get xs i) [])
adds_past {X} f xs i lines le = adds_none lines ∙ ap (λ (o : Option X). map records lines ++ option_map_or f o []) (sym (slice_get_past xs i le))

-- where there is one, there is its part
pub adds_at : {X : Type 0} (f : X → List Recorded) (xs : List X) (i : ℕ) (x : X) (a b : List Line) → slice_get xs i ≡ Some x → AddsRecorded a b (f x) → AddsRecorded a b (option_map_or f (slice_get xs i) [])
adds_at {X} f xs i x a b at adds = subst (λ (o : Option X). AddsRecorded a b (option_map_or f o [])) (sym at) adds

pub adds_at_on_ok : {X Y E : Type 0} (f : X → List Recorded) (xs : List X) (i : ℕ) (x : X) (r : Result Y E) (a b : List Line) → slice_get xs i ≡ Some x → OnOk r (AddsRecorded a b (f x))
    → OnOk r (AddsRecorded a b (option_map_or f (slice_get xs i) []))
adds_at_on_ok {X} f xs i x r a b at adds = subst (λ (o : Option X). OnOk r (AddsRecorded a b (option_map_or f o []))) (sym at) adds

-- the status of lines is no part of what they report
recorded_images : (xs : List Line) → map recorded_of (map unchecked xs) ≡ map recorded_of xs
recorded_images [] = refl
recorded_images (x ∷ xs) = ap (λ zs. recorded_of x ∷ zs) (recorded_images xs)

pub recorded_kept : (xs ys : List Line) → map unchecked xs ≡ map unchecked ys → map recorded_of xs ≡ map recorded_of ys
recorded_kept xs ys same = sym (recorded_images xs) ∙ ap (map recorded_of) same ∙ recorded_images ys

records_images : (xs : List Line) → map records (map unchecked xs) ≡ map records xs
records_images [] = refl
records_images (x ∷ xs) = ap (λ zs. records x ∷ zs) (records_images xs)

pub records_kept : (xs ys : List Line) → map unchecked xs ≡ map unchecked ys → map records xs ≡ map records ys
records_kept xs ys same = sym (records_images xs) ∙ ap (map records) same ∙ records_images ys

-- an AVP that is no group of both has no lines of levels
pub adds_no_level : (site way : ℕ) (outlooks : List Outlook) (place : ℕ) (outlook : Outlook) (lines : List Line) → slice_get outlooks place ≡ Some outlook → outlook.inner ≡ None
    → AddsRecorded lines lines (option_map_or (level_lines site way) (slice_get (map lines_in outlooks) place) [])
adds_no_level site way outlooks place outlook lines at none =
    adds_none lines ∙ ap (λ (o : Option (List LevelLine)). map records lines ++ option_map_or (level_lines site way) o [])
    (sym (slice_get-map lines_in outlooks place ∙ ap (option_map lines_in) at ∙ ap (λ (inner : Option Inner). Some (option_map_or (λ (i : Inner). i.lines.items) inner [])) none))

-- one that is has those of its level
pub adds_level : {Y E : Type 0} (site way : ℕ) (outlooks : List Outlook) (place : ℕ) (outlook : Outlook) (inner : Inner) (lines : List LevelLine) (r : Result Y E) (a b : List Line)
    → slice_get outlooks place ≡ Some outlook → outlook.inner ≡ Some inner → lines ≡ inner.lines.items → OnOk r (AddsRecorded a b (level_lines site way lines))
    → OnOk r (AddsRecorded a b (option_map_or (level_lines site way) (slice_get (map lines_in outlooks) place) []))
adds_level site way outlooks place outlook inner lines r a b at some is adds =
    subst (λ (o : Option (List LevelLine)). OnOk r (AddsRecorded a b (option_map_or (level_lines site way) o [])))
    (ap (λ (ls : List LevelLine). Some ls) is
    ∙ sym (slice_get-map lines_in outlooks place ∙ ap (option_map lines_in) at ∙ ap (λ (inner : Option Inner). Some (option_map_or (λ (i : Inner). i.lines.items) inner [])) some))
    adds

-- what is added after others for one member more
pub added_after : {X Y : Type 0} (f : X → Option Y) (xs : List X) (i : ℕ) (x : X) (start old new : List Y) → new ≡ old ++ filter_map f (x ∷ []) → old ≡ start ++ filter_map f (take i xs)
    → slice_get xs i ≡ Some x
    → new ≡ start ++ filter_map f (take (i + 1) xs)
added_after {X} {Y} f xs i x start old new is before at =
    is ∙ ap (λ (ys : List Y). ys ++ filter_map f (x ∷ [])) before ∙ append_assoc start (filter_map f (take i xs)) (filter_map f (x ∷ [])) ∙ ap (λ (ys : List Y). start ++ ys)
    (sym (filter_map_more f xs i x at))
