-- What is reported of a command is reported by a line of its answer.
use Rattle.std.proofs.Common.{◌≡◌, ℕ, zero, suc, ◌<◌, ◌≤◌, Bool, true, false, List, [], ◌∷◌, ◌++◌, length, map, Option, Some, None, refl, sym, ap, subst, ◌∙◌, arith, inl, inr}
use Rattle.std.specs.Prelude.{◌⊎◌, ◌==◌, Contains, slice_get, option_and_then, option_to_list, if◌then◌else◌}
use Rattle.std.specs.Option.{option_map_or}
use Rattle.std.proofs.lemmas.Bool.{cases_order, eq-eqb, le-leb}
use Rattle.std.proofs.lemmas.Option.{slice_get_within}
use Rattle.dia_book.specs.Dictionary.{Dictionary}
use Rattle.dia_book.proofs.Members.{at_map}
use Rattle.dia_valid.proofs.Members.{IsIn, at_in, in_filter, in_left, in_right, into_filter}
use Rattle.dia_breaking_sites.specs.Selection.{max_body}
use Rattle.dia_breaking_ways.specs.declared.graph.Step.{Step}
use Rattle.dia_breaking_ways.specs.declared.graph.Reach.{Reach}
use Rattle.dia_breaking.specs.declared.line.Cause.{Cause}
use Rattle.dia_breaking.specs.declared.line.Cause.TheVariants as causes
use Rattle.dia_breaking.specs.declared.line.Line.{Line}
use Rattle.dia_breaking.specs.declared.own_breaks.OwnBreaks.{OwnBreaks}
use Rattle.dia_breaking.specs.declared.own_lines.Kind.{Kind}
use Rattle.dia_breaking.specs.declared.own_lines.Kind.TheVariants as kinds
use Rattle.dia_breaking.specs.Listing.{Recorded, Basis, AreInOrder, command_levels, group_levels, header_lines, lines_of, numbers, own_cause, own_line, own_lines, reach_at, reached_line, subject, records, with_room}
use Rattle.dia_breaking.specs.Orders.{IsInOrderOf, joined, of_each}
use Rattle.dia_breaking.specs.OwnKeys.{data_key, flags_key}
use Rattle.dia_breaking.specs.Sites.{site_number}
use Rattle.dia_breaking.proofs.Lists.{contains_at}

-- ---- lists

in_part : {Y : Type 0} (part : ℕ → List Y) (y : Y) (n i : ℕ) → i < n → IsIn y (part i) → IsIn y (joined part n)
in_part part y zero i lt h = absurd (omega (arith, lt))
in_part part y (suc n) i lt h = by (cases_order i n) (in_part part y n i)
  where
    by : (i ≡ n) ⊎ ((i < n) ⊎ (n < i)) → (i < n → IsIn y (part i) → IsIn y (joined part n)) → IsIn y (joined part n ++ part n)
    by (inl e) more = in_right (joined part n) (part n) y (subst (λ (m : ℕ). IsIn y (part m)) e h)
    by (inr (inl less)) more = in_left (joined part n) (part n) y (more less h)
    by (inr (inr past)) more = absurd (omega (arith, past, lt))

pub in_each : {X Y : Type 0} (f : ℕ → X → List Y) (xs : List X) (i : ℕ) (x : X) (y : Y) → slice_get xs i ≡ Some x → IsIn y (f i x) → IsIn y (of_each f xs)
in_each {X} f xs i x y at h =
    in_part (λ i. option_map_or (f i) (slice_get xs i) []) y (length xs) i (slice_get_within xs i x at) (subst (λ (o : Option X). IsIn y (option_map_or (f i) o [])) (sym at) h)

pub in_sorted : {X : Type 0} (number : X → ℕ) (all sorted : List X) (x : X) → IsInOrderOf number all sorted → IsIn x all → IsIn x sorted
in_sorted {X} number all sorted x order i =
    let p : X → Bool = λ y. number y == number x in
    let kept = into_filter p all x i (eq-eqb (number x) (number x) refl) in
    (in_filter p sorted x (subst (λ (xs : List X). IsIn x xs) (sym (order.each (number x))) kept)).0

-- ---- lines

pub with_enough : (site size : ℕ) (cause : Cause) → size ≤ max_body → with_room site size cause ≡ Some (record { site = site; cause = cause; length = size })
with_enough site size cause le = ap (λ (b : Bool). if b then Some (record { site = site; cause = cause; length = size }) else None) (le-leb size max_body le)

-- a line reports this
pub record IsRecordedIn (lines : List Line) (recorded : Recorded) : Type 0 where
  pub line : Line
  pub inside : Contains lines line
  pub site : line.site ≡ recorded.site
  pub cause : subject line.cause ≡ recorded.cause

pub recorded_in : (lines : List Line) (recorded : Recorded) → IsIn recorded (map records lines) → IsRecordedIn lines recorded
recorded_in lines recorded i =
    let a = at_in (map records lines) recorded i in
    let (line, at, same) = at_map records lines a.place recorded a.at in
    record { line = line; inside = contains_at lines a.place line at; site = ap (λ (t : Recorded). t.site) same; cause = ap (λ (t : Recorded). t.cause) same }

abbrev is_data : Cause → Bool
is_data (causes.Format key found) = true
is_data (causes.LevelAsLeaf key) = true
is_data cause = false

-- but for data, what a line reports is its cause
pub cause_is : (cause recorded : Cause) → subject cause ≡ recorded → is_data recorded ≡ false → cause ≡ recorded
cause_is (causes.Format key found) recorded e none = absurd (let bad : true ≡ false = ap is_data e ∙ none in cc)
cause_is (causes.LevelAsLeaf key) recorded e none = absurd (let bad : true ≡ false = ap is_data e ∙ none in cc)
cause_is causes.Command recorded e none = e
cause_is causes.Application recorded e none = e
cause_is (causes.Proxiable set) recorded e none = e
cause_is (causes.Level line) recorded e none = e
cause_is (causes.Unknown key m) recorded e none = e
cause_is (causes.MBit key m) recorded e none = e
cause_is (causes.Meaning key) recorded e none = e

-- the keys stay
pub subject_flags : (cause : Cause) → flags_key (subject cause) ≡ flags_key cause
subject_flags (causes.Format key found) = refl
subject_flags (causes.LevelAsLeaf key) = refl
subject_flags causes.Command = refl
subject_flags causes.Application = refl
subject_flags (causes.Proxiable set) = refl
subject_flags (causes.Level line) = refl
subject_flags (causes.Unknown key m) = refl
subject_flags (causes.MBit key m) = refl
subject_flags (causes.Meaning key) = refl

pub subject_data : (cause : Cause) → data_key (subject cause) ≡ data_key cause
subject_data (causes.Format key found) = refl
subject_data (causes.LevelAsLeaf key) = refl
subject_data causes.Command = refl
subject_data causes.Application = refl
subject_data (causes.Proxiable set) = refl
subject_data (causes.Level line) = refl
subject_data (causes.Unknown key m) = refl
subject_data (causes.MBit key m) = refl
subject_data (causes.Meaning key) = refl

-- ---- AVPs by themselves

-- what is reached of an AVP is reported, if a message has room for it
pub own_recorded : (kind : Kind) (first count : ℕ) (owns : List OwnBreaks) (reached : List (Option Reach)) (place : ℕ) (one : OwnBreaks) (reach : Reach) (cause : Cause) (n : ℕ)
    → slice_get owns place ≡ Some one → slice_get reached place ≡ Some (Some reach) → own_cause kind one reach.length ≡ Some (cause, n) → n ≤ max_body
    → IsIn (record { site = site_number first count reach.level; cause = cause; length = n }) (own_lines kind first count owns reached)
own_recorded kind first count owns reached place one reach cause n here at is room =
    in_each (reached_line kind first count reached) owns place one line here (subst (λ (xs : List Recorded). IsIn line xs) (sym part) (inl refl))
  where
    site : ℕ
    site = site_number first count reach.level

    line : Recorded
    line = record { site = site; cause = cause; length = n }

    made : own_line kind first count one reach ≡ Some line
    made = ap (λ (o : Option (Cause × ℕ)). option_and_then (λ (found : Cause × ℕ). with_room site found.1 found.0) o) is ∙ with_enough site n cause room

    there : reach_at reached place ≡ Some reach
    there = ap (λ (o : Option (Option Reach)). option_and_then (λ (r : Option Reach). r) o) at

    part : reached_line kind first count reached place one ≡ line ∷ []
    part = ap (λ (o : Option Reach). option_to_list (option_and_then (own_line kind first count one) o)) there ∙ ap (λ (o : Option Recorded). option_to_list o) made

-- ---- the parts of a listing

module _ (db : Dictionary) (basis : Basis) (first count : ℕ) (steps : List Step) (reached : List (Option Reach)) where
  abbrev heads : List Recorded
  heads = of_each (header_lines db basis.head basis.base) basis.readings

  abbrev own_levels : List Recorded
  own_levels = of_each command_levels basis.levels

  abbrev inner_levels : List Recorded
  inner_levels = of_each (group_levels count basis.groups) steps

  abbrev by : Kind → List Recorded
  by kind = own_lines kind first count basis.own reached

  abbrev pub AllRecorded : Recorded → Type 0
  AllRecorded recorded = IsIn recorded (lines_of db basis (numbers first count) steps reached)

  from_four : (recorded : Recorded) → IsIn recorded (((heads ++ own_levels) ++ inner_levels) ++ by kinds.Unknown) → AllRecorded recorded
  from_four recorded i =
      in_left ((((heads ++ own_levels) ++ inner_levels) ++ by kinds.Unknown) ++ by kinds.MBit) (by kinds.Data) recorded
      (in_left (((heads ++ own_levels) ++ inner_levels) ++ by kinds.Unknown) (by kinds.MBit) recorded i)

  from_two : (recorded : Recorded) → IsIn recorded (heads ++ own_levels) → AllRecorded recorded
  from_two recorded i = from_four recorded (in_left ((heads ++ own_levels) ++ inner_levels) (by kinds.Unknown) recorded (in_left (heads ++ own_levels) inner_levels recorded i))

  pub from_heads : (recorded : Recorded) → IsIn recorded heads → AllRecorded recorded
  from_heads recorded i = from_two recorded (in_left heads own_levels recorded i)

  pub from_levels : (recorded : Recorded) → IsIn recorded own_levels → AllRecorded recorded
  from_levels recorded i = from_two recorded (in_right heads own_levels recorded i)

  pub from_groups : (recorded : Recorded) → IsIn recorded inner_levels → AllRecorded recorded
  from_groups recorded i = from_four recorded (in_left ((heads ++ own_levels) ++ inner_levels) (by kinds.Unknown) recorded (in_right (heads ++ own_levels) inner_levels recorded i))

  pub from_unknown : (recorded : Recorded) → IsIn recorded (by kinds.Unknown) → AllRecorded recorded
  from_unknown recorded i = from_four recorded (in_right ((heads ++ own_levels) ++ inner_levels) (by kinds.Unknown) recorded i)

  pub from_flags : (recorded : Recorded) → IsIn recorded (by kinds.MBit) → AllRecorded recorded
  from_flags recorded i =
      in_left ((((heads ++ own_levels) ++ inner_levels) ++ by kinds.Unknown) ++ by kinds.MBit) (by kinds.Data) recorded
      (in_right (((heads ++ own_levels) ++ inner_levels) ++ by kinds.Unknown) (by kinds.MBit) recorded i)

  pub from_data : (recorded : Recorded) → IsIn recorded (by kinds.Data) → AllRecorded recorded
  from_data recorded i = in_right ((((heads ++ own_levels) ++ inner_levels) ++ by kinds.Unknown) ++ by kinds.MBit) (by kinds.Data) recorded i

  -- a line reports each
  pub recorded_of : (lines : List Line) → AreInOrder (lines_of db basis (numbers first count) steps reached) (map records lines) → (recorded : Recorded) → AllRecorded recorded → IsRecordedIn lines recorded
  recorded_of lines order recorded i = recorded_in lines recorded (in_sorted (λ (line : Recorded). line.site) (lines_of db basis (numbers first count) steps reached) (map records lines) recorded order i)
