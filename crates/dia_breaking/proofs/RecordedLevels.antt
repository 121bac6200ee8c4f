-- Which of the lines of a command report levels.
use Rattle.std.proofs.Common.{◌≡◌, ℕ, zero, suc, ◌+◌, Bool, true, false, List, [], ◌∷◌, ◌++◌, length, Option, Some, None, refl, sym, ap, subst, ◌∙◌, inl, inr}
use Rattle.std.specs.Prelude.{◌⊎◌, ◌&&◌, not, nat_le, ◌==◌, slice_get, option_and_then, option_to_list, if◌then◌else◌}
use Rattle.std.specs.Option.{option_map, option_map_or}
use Rattle.std.proofs.lemmas.Bool.{eq-eqb}
use Rattle.std.proofs.lemmas.Option.{none-some, same_Some}
use Rattle.dia_wire.specs.declared.Key.{Key}
use Rattle.dia_book.specs.Dictionary.{Dictionary, has_command}
use Rattle.dia_book.proofs.Members.{at_filter_map}
use Rattle.dia_valid.proofs.Members.{IsIn, at_in, in_append, in_at, in_filter, into_filter}
use Rattle.dia_breaking_sites.specs.Selection.{max_body}
use Rattle.dia_breaking_avps.specs.declared.breaking.HeadBreak.{HeadBreak}
use Rattle.dia_breaking_avps.specs.declared.breaking.HeadBreak.TheVariants as head_breaks
use Rattle.dia_breaking_levels.specs.declared.line.Line.{Line as LevelLine}
use Rattle.dia_breaking_ways.specs.declared.graph.Reach.{Reach}
use Rattle.dia_breaking.specs.declared.heads.Head.{Head}
use Rattle.dia_breaking.specs.declared.line.Cause.{Cause}
use Rattle.dia_breaking.specs.declared.line.Cause.TheVariants as causes
use Rattle.dia_breaking.specs.declared.own_breaks.OwnBreaks.{OwnBreaks}
use Rattle.dia_breaking.specs.declared.own_lines.Kind.{Kind}
use Rattle.dia_breaking.specs.declared.own_lines.Kind.TheVariants as kinds
use Rattle.dia_breaking.specs.Headers.{allows}
use Rattle.dia_breaking.specs.Listing.{Recorded, data_length, flag_causes, head_cause, header_causes, level_lines, own_cause, own_line, own_lines, reach_at, reached_line, refusal, with_room}
use Rattle.dia_breaking.specs.Orders.{IsInOrderOf, joined, of_each}
use Rattle.dia_breaking.specs.Sites.{other_head, site_number}

-- the line of a level, if a line reports one
abbrev pub level_in : Cause → Option LevelLine
level_in causes.Command = None
level_in causes.Application = None
level_in (causes.Proxiable set) = None
level_in (causes.Level line) = Some line
level_in (causes.Unknown key m) = None
level_in (causes.MBit key m) = None
level_in (causes.Format key found) = None
level_in (causes.LevelAsLeaf key) = None
level_in (causes.Meaning key) = None

pub from_each : {X Y : Type 0} (f : ℕ → X → List Y) (xs : List X) (y : Y) → IsIn y (of_each f xs) → (i : ℕ) × (x : X) × (slice_get xs i ≡ Some x) × IsIn y (f i x)
from_each {X} {Y} f xs y h = within (length xs) h
  where
    here : (i : ℕ) (o : Option X) → slice_get xs i ≡ o → IsIn y (option_map_or (f i) o []) → (j : ℕ) × (x : X) × (slice_get xs j ≡ Some x) × IsIn y (f j x)
    here i None e h = absurd h
    here i (Some x) e h = (i, x, e, h)

    parts : (n : ℕ) → IsIn y (joined (λ i. option_map_or (f i) (slice_get xs i) []) n) ⊎ IsIn y (option_map_or (f n) (slice_get xs n) [])
        → (IsIn y (joined (λ i. option_map_or (f i) (slice_get xs i) []) n) → (i : ℕ) × (x : X) × (slice_get xs i ≡ Some x) × IsIn y (f i x))
        → (i : ℕ) × (x : X) × (slice_get xs i ≡ Some x) × IsIn y (f i x)
    parts n (inl i) rest = rest i
    parts n (inr i) rest = here n (slice_get xs n) refl i

    within : (n : ℕ) → IsIn y (joined (λ i. option_map_or (f i) (slice_get xs i) []) n) → (i : ℕ) × (x : X) × (slice_get xs i ≡ Some x) × IsIn y (f i x)
    within zero h = absurd h
    within (suc n) h = parts n (in_append (joined (λ i. option_map_or (f i) (slice_get xs i) []) n) (option_map_or (f n) (slice_get xs n) []) y h) (within n)

pub from_sorted : {X : Type 0} (number : X → ℕ) (all sorted : List X) (x : X) → IsInOrderOf number all sorted → IsIn x sorted → IsIn x all
from_sorted {X} number all sorted x order i =
    let p : X → Bool = λ y. number y == number x in
    let kept = into_filter p sorted x i (eq-eqb (number x) (number x) refl) in
    (in_filter p all x (subst (λ (xs : List X). IsIn x xs) (order.each (number x)) kept)).0

-- a reported line that had room
had_room : (site size : ℕ) (cause : Cause) (recorded : Recorded) → with_room site size cause ≡ Some recorded → (recorded.site ≡ site) × (recorded.cause ≡ cause)
had_room site size cause recorded is = by (nat_le size max_body) is
  where
    by : (t : Bool) → (if t then Some (let line : Recorded = record { site = site; cause = cause; length = size } in line) else None) ≡ Some recorded → (recorded.site ≡ site) × (recorded.cause ≡ cause)
    by true e =
        let same = same_Some (let line : Recorded = record { site = site; cause = cause; length = size } in line) recorded e in
        (ap (λ (t : Recorded). t.site) (sym same), ap (λ (t : Recorded). t.cause) (sym same))
    by false e = absurd (none-some recorded e)

-- of these levels
pub of_levels : (site way : ℕ) (found : List LevelLine) (recorded : Recorded) (line : LevelLine) → IsIn recorded (level_lines site way found) → level_in recorded.cause ≡ Some line
    → (recorded.site ≡ site) × IsIn line found
of_levels site way found recorded line i records_it =
    let p = at_in (level_lines site way found) recorded i in
    let h = at_filter_map (λ (l : LevelLine). with_room site (way + l.length) (causes.Level l)) found p.place recorded p.at in
    let parts = had_room site (way + h.1.length) (causes.Level h.1) recorded h.3 in
    let same : h.1 ≡ line = same_Some h.1 line (sym (ap level_in parts.1) ∙ records_it) in
    (parts.0, subst (λ (l : LevelLine). IsIn l found) same (in_at found h.0 h.1 h.2))

-- a header's line reports none
pub no_head_level : (db : Dictionary) (head : Head) (app : ℕ) (cause : Cause) → IsIn cause (header_causes db head app) → level_in cause ≡ None
no_head_level db head app cause = by (other_head db head app)
  where
    refused : (t : Bool) → level_in (if t then causes.Application else causes.Command) ≡ None
    refused true = refl
    refused false = refl

    flags : (set t : Bool) → IsIn cause (if t then causes.Proxiable set ∷ [] else []) → level_in cause ≡ None
    flags set true (inl e) = ap level_in e
    flags set true (inr i) = absurd i
    flags set false i = absurd i

    both : (other : Head) → IsIn cause (flag_causes head other false) ⊎ IsIn cause (flag_causes head other true) → level_in cause ≡ None
    both other (inl i) = flags false (allows head.p false && not (allows other.p false)) i
    both other (inr i) = flags true (allows head.p true && not (allows other.p true)) i

    by : (o : Option Head) → IsIn cause (option_map_or (λ other. flag_causes head other false ++ flag_causes head other true) o (refusal db head ∷ [])) → level_in cause ≡ None
    by None (inl e) = ap level_in e ∙ refused (has_command db head.code head.class)
    by None (inr i) = absurd i
    by (Some other) i = both other (in_append (flag_causes head other false) (flag_causes head other true) cause i)

-- nor does one of an AVP by itself
pub no_own_level : (kind : Kind) (first count : ℕ) (own : List OwnBreaks) (reached : List (Option Reach)) (recorded : Recorded) → IsIn recorded (own_lines kind first count own reached) → level_in recorded.cause ≡ None
no_own_level kind first count own reached recorded i =
    let (place, one, at, here) = from_each (reached_line kind first count reached) own recorded i in
    by one (reach_at reached place) here
  where
    of_head : (kind : Kind) (key : Key) (found : HeadBreak) (cause : Cause) → head_cause kind key found ≡ Some cause → level_in cause ≡ None
    of_head kinds.Unknown key (head_breaks.Unknown m) cause e = ap level_in (sym (same_Some (causes.Unknown key m) cause e))
    of_head kinds.Unknown key (head_breaks.MBit m) cause e = absurd (none-some cause e)
    of_head kinds.MBit key (head_breaks.MBit m) cause e = ap level_in (sym (same_Some (causes.MBit key m) cause e))
    of_head kinds.MBit key (head_breaks.Unknown m) cause e = absurd (none-some cause e)
    of_head kinds.Data key (head_breaks.Unknown m) cause e = absurd (none-some cause e)
    of_head kinds.Data key (head_breaks.MBit m) cause e = absurd (none-some cause e)
    of_head kinds.Meaning key (head_breaks.Unknown m) cause e = absurd (none-some cause e)
    of_head kinds.Meaning key (head_breaks.MBit m) cause e = absurd (none-some cause e)

    by_head : (kind : Kind) (key : Key) (size : ℕ) (o : Option HeadBreak) (found : Cause × ℕ)
        → option_map (λ (cause : Cause). let pair : Cause × ℕ = (cause, size) in pair) (option_and_then (head_cause kind key) o) ≡ Some found → level_in found.0 ≡ None
    by_head kind key size None found e = absurd (none-some found e)
    by_head kind key size (Some break) found e = at (head_cause kind key break) refl e
      where
        at : (o : Option Cause) → head_cause kind key break ≡ o → option_map (λ (cause : Cause). let pair : Cause × ℕ = (cause, size) in pair) o ≡ Some found → level_in found.0 ≡ None
        at None h e = absurd (none-some found e)
        at (Some cause) h e =
            ap (λ (pair : Cause × ℕ). level_in pair.0) (sym (same_Some (let pair : Cause × ℕ = (cause, size) in pair) found e)) ∙ of_head kind key break cause h

    by_data : (key : Key) (o : Option ℕ) (found : Cause × ℕ) → option_map (λ (n : ℕ). let pair : Cause × ℕ = (causes.Format key None, n) in pair) o ≡ Some found → level_in found.0 ≡ None
    by_data key None found e = absurd (none-some found e)
    by_data key (Some n) found e = ap (λ (pair : Cause × ℕ). level_in pair.0) (sym (same_Some (let pair : Cause × ℕ = (causes.Format key None, n) in pair) found e))

    by_other : (key : Key) (size : ℕ) (t : Bool) (found : Cause × ℕ) → (if t then Some (let pair : Cause × ℕ = (causes.Meaning key, size) in pair) else None) ≡ Some found → level_in found.0 ≡ None
    by_other key size true found e = ap (λ (pair : Cause × ℕ). level_in pair.0) (sym (same_Some (let pair : Cause × ℕ = (causes.Meaning key, size) in pair) found e))
    by_other key size false found e = absurd (none-some found e)

    of_kind : (kind : Kind) (one : OwnBreaks) (size : ℕ) (found : Cause × ℕ) → own_cause kind one size ≡ Some found → level_in found.0 ≡ None
    of_kind kinds.Data one size found e = by_data one.key (data_length one size one.breaks.data) found e
    of_kind kinds.Meaning one size found e = by_other one.key size one.is_other found e
    of_kind kinds.Unknown one size found e = by_head kinds.Unknown one.key size one.breaks.head found e
    of_kind kinds.MBit one size found e = by_head kinds.MBit one.key size one.breaks.head found e

    listed : (o : Option Recorded) → IsIn recorded (option_to_list o) → o ≡ Some recorded
    listed None h = absurd h
    listed (Some t) (inl e) = ap (λ (x : Recorded). Some x) (sym e)
    listed (Some t) (inr h) = absurd h

    made : (one : OwnBreaks) (reach : Reach) (o : Option (Cause × ℕ)) → own_cause kind one reach.length ≡ o
        → option_and_then (λ (found : Cause × ℕ). with_room (site_number first count reach.level) found.1 found.0) o ≡ Some recorded → level_in recorded.cause ≡ None
    made one reach None h e = absurd (none-some recorded e)
    made one reach (Some found) h e =
        let parts = had_room (site_number first count reach.level) found.1 found.0 recorded e in
        ap level_in parts.1 ∙ of_kind kind one reach.length found h

    by : (one : OwnBreaks) (o : Option Reach) → IsIn recorded (option_to_list (option_and_then (own_line kind first count one) o)) → level_in recorded.cause ≡ None
    by one None h = absurd h
    by one (Some reach) h = made one reach (own_cause kind one reach.length) refl (listed (own_line kind first count one reach) h)
