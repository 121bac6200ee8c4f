-- Lines that are known and put one after another.
use Rattle.std.proofs.Common.{◌≡◌, ℕ, ◌+◌, ◌<◌, Bool, true, false, List, [], ◌∷◌, ◌++◌, Option, drop, get_or, length, take, refl, sym, ap, subst, ◌∙◌, append_assoc}
use Rattle.std.specs.Prelude.{nat_eq, ◌||◌, ◌↔◌, Result, Ok, Err}
use Rattle.std.specs.List.{list_any}
use Rattle.std.proofs.lemmas.List.{append-nil, take-append-drop, take_more}
use Rattle.std.proofs.lemmas.List.Folds.{list_any-append}
use Rattle.dia_io.specs.declared.RunFault.{RunFault}
use Rattle.dia_io.specs.declared.RunFault.TheVariants.{Device, NoMemory}
use Rattle.dia_io.specs.Writing.{AppendsFront}
use Rattle.dia_accepted.specs.Accepted.{PlainEntry}
use Rattle.dia_breaking_sites.specs.Sent.{AreBytes}
use Rattle.dia_breaking.specs.declared.line.Line.{Line}
use Rattle.dia_breaking.specs.Messages.{Stock}
use Rattle.dia_breaking.specs.Sides.{Sides}
use Rattle.dia_upgrades.specs.declared.asked.Asked.{Asked}
use Rattle.dia_upgrades.specs.declared.lines.Listing.{Listing}
use Rattle.dia_upgrades.specs.declared.seen.Seen.{Seen}
use Rattle.dia_upgrades.specs.Recorded.{AreBothParts, AreParts, IsLineRecorded, IsRecordedOf, Says, has_message, row_of}
use Rattle.dia_upgrades.specs.UnderWay.{AreSeen, GoesOn, IsPut, IsUnderWay, Sees, SeesApart, Occurs, StopsAmong, StopsAfter, text_shown}
use Rattle.dia_upgrades.proofs.LinesToReport.{left_both, digits_after, shown_more, occurs_after}
use Rattle.dia_upgrades.proofs.Parts.{all_parts, both_ends}
use Rattle.dia_upgrades.proofs.Puts.{same_put}
use Rattle.dia_upgrades.specs.Rows.{Row, is_command, left_of}
use Rattle.dia_upgrades.specs.Writing.{Writing}

-- ---- lines that aren't shown

module _ (asked : Asked) (place : ℕ) where
  pub apart_both : (old mid new : Seen) (others rest : List Row) → SeesApart asked place old mid others → SeesApart asked place mid new rest → SeesApart asked place old new (others ++ rest)
  apart_both old mid new others rest first second = λ forgets list visits recorded apart small are.
      subst (λ (xs : List Row). AreSeen asked forgets list place visits new recorded xs) (append_assoc apart others rest)
      (second forgets list visits recorded (apart ++ others) small (first forgets list visits recorded apart small are))

  pub apart_nothing : (now : Seen) → SeesApart asked place now now []
  apart_nothing now = λ forgets list visits recorded apart small are. subst (λ (xs : List Row). AreSeen asked forgets list place visits now recorded xs) (sym (append-nil apart)) are

module _ (w : Writing) (asked : Asked) (place : ℕ) where
  -- ---- one line

  text_after : (list : List PlainEntry) (recorded : List Row) (t : Row) (text : List ℕ) → text ≡ text_shown w asked (left_of list (t ∷ []))
      → text_shown w asked (left_of list recorded) ++ text ≡ text_shown w asked (left_of list (recorded ++ t ∷ []))
  text_after list recorded t text is =
      ap (λ (x : List ℕ). text_shown w asked (left_of list recorded) ++ x) is ∙ sym (shown_more w asked (left_of list recorded) (left_of list (t ∷ [])))
      ∙ ap (text_shown w asked) (sym (left_both list recorded (t ∷ [])))

  pub line_goes : (put_old put : Option (List ℕ)) (old new : Listing) (t : Row) (text : List ℕ) → Sees w asked place old.seen new.seen t text
      → ((begun : Option (List ℕ)) (before : List ℕ) → IsPut begun put_old old.pending before → IsPut begun put new.pending (before ++ text)) → GoesOn w asked place put_old put old new (t ∷ []) []
  line_goes put_old put old new t text sees added = λ forgets list visits begun recorded apart small way.
      let s = sees forgets list visits recorded apart small way.seen in record {
        seen = subst (λ (xs : List Row). AreSeen asked forgets list place visits new.seen (recorded ++ t ∷ []) xs) (sym (append-nil apart)) s.0;
        is_put = subst (IsPut begun put new.pending) (text_after list recorded t text s.1) (added begun (text_shown w asked (left_of list recorded)) way.is_put);
      }

  pub line_stops : (put_old put : Option (List ℕ)) (old new : Listing) (seen : Seen) (t : Row) (text : List ℕ) → Sees w asked place old.seen seen t text
      → ((begun : Option (List ℕ)) (before : List ℕ) → IsPut begun put_old old.pending before → AppendsFront begun put (before ++ text)) → StopsAfter w asked place Device put_old put old new (t ∷ [])
  line_stops put_old put old new seen t text sees front = λ forgets list visits begun recorded apart small way.
      subst (AppendsFront begun put) (text_after list recorded t text (sees forgets list visits recorded apart small way.seen).1) (front begun (text_shown w asked (left_of list recorded)) way.is_put)

  -- ---- nothing more

  pub goes_nothing : (put : Option (List ℕ)) (now : Listing) → GoesOn w asked place put put now now [] []
  goes_nothing put now = λ forgets list visits begun recorded apart small way. subst (λ (xs : List Row). IsUnderWay w asked forgets list place visits begun put now xs (apart ++ [])) (sym (append-nil recorded))
      (subst (λ (xs : List Row). IsUnderWay w asked forgets list place visits begun put now recorded xs) (sym (append-nil apart)) way)

  -- where memory is refused, what was put and what is pending stay
  pub stops_here : (put : Option (List ℕ)) (old new : Listing) → new.pending ≡ old.pending → StopsAfter w asked place NoMemory put put old new []
  stops_here put old new same = λ forgets list visits begun recorded apart small way.
      subst (λ (xs : List Row). IsPut begun put new.pending (text_shown w asked (left_of list xs))) (sym (append-nil recorded))
      (same_put begun put old.pending new.pending (text_shown w asked (left_of list recorded)) (ap (λ p. p.bytes.items) same) way.is_put)

  pub stops_after : (put_old put : Option (List ℕ)) (old mid new : Listing) (more others : List Row) → new.pending ≡ mid.pending → GoesOn w asked place put_old put old mid more others
      → StopsAfter w asked place NoMemory put_old put old new more
  stops_after put_old put old mid new more others same goes = λ forgets list visits begun recorded apart small way.
      same_put begun put mid.pending new.pending (text_shown w asked (left_of list (recorded ++ more))) (ap (λ p. p.bytes.items) same) (goes forgets list visits begun recorded apart small way).is_put

  from_there : (put : Option (List ℕ)) (old mid : Listing) → mid.seen ≡ old.seen → mid.pending ≡ old.pending → (forgets : Bool) (list : List PlainEntry) (visits : ℕ) (begun : Option (List ℕ))
      (recorded apart : List Row) → IsUnderWay w asked forgets list place visits begun put old recorded apart → IsUnderWay w asked forgets list place visits begun put mid recorded apart
  from_there put old mid seen pending forgets list visits begun recorded apart way = record {
    seen = subst (λ s. AreSeen asked forgets list place visits s recorded apart) (sym seen) way.seen;
    is_put = same_put begun put old.pending mid.pending (text_shown w asked (left_of list recorded)) (ap (λ p. p.bytes.items) pending) way.is_put;
  }

  -- what was known before the budget was used
  pub goes_from : (a b : Option (List ℕ)) (old mid new : Listing) (more others : List Row) → mid.seen ≡ old.seen → mid.pending ≡ old.pending → GoesOn w asked place a b mid new more others
      → GoesOn w asked place a b old new more others
  goes_from a b old mid new more others seen pending goes = λ forgets list visits begun recorded apart small way. goes forgets list visits begun recorded apart small (from_there a old mid seen pending forgets list visits begun recorded apart way)

  pub stops_from : (fault : RunFault) (a b : Option (List ℕ)) (old mid new : Listing) (more : List Row) → mid.seen ≡ old.seen → mid.pending ≡ old.pending → StopsAfter w asked place fault a b mid new more
      → StopsAfter w asked place fault a b old new more
  stops_from fault a b old mid new more seen pending stops = λ forgets list visits begun recorded apart small way. stops forgets list visits begun recorded apart small (from_there a old mid seen pending forgets list visits begun recorded apart way)

  -- ---- one thing after another

  pub goes_both : (a b c : Option (List ℕ)) (old mid new : Listing) (more last others rest : List Row) → GoesOn w asked place a b old mid more others → GoesOn w asked place b c mid new last rest
      → GoesOn w asked place a c old new (more ++ last) (others ++ rest)
  goes_both a b c old mid new more last others rest first second = λ forgets list visits begun recorded apart small way.
      subst (λ (xs : List Row). IsUnderWay w asked forgets list place visits begun c new xs (apart ++ (others ++ rest))) (append_assoc recorded more last)
      (subst (λ (xs : List Row). IsUnderWay w asked forgets list place visits begun c new ((recorded ++ more) ++ last) xs) (append_assoc apart others rest)
      (second forgets list visits begun (recorded ++ more) (apart ++ others) small (first forgets list visits begun recorded apart small way)))

  pub stops_later : (fault : RunFault) (a b c : Option (List ℕ)) (old mid new : Listing) (more last others : List Row) → GoesOn w asked place a b old mid more others
      → StopsAfter w asked place fault b c mid new last → StopsAfter w asked place fault a c old new (more ++ last)
  stops_later fault a b c old mid new more last others goes stops = λ forgets list visits begun recorded apart small way.
      subst (λ (xs : List Row). Occurs fault begun c new.pending (text_shown w asked (left_of list xs))) (append_assoc recorded more last)
      (stops forgets list visits begun (recorded ++ more) (apart ++ others) small (goes forgets list visits begun recorded apart small way))

  -- lines that aren't shown
  pub apart_goes : (put : Option (List ℕ)) (old new : Listing) (others : List Row) → new.pending ≡ old.pending → SeesApart asked place old.seen new.seen others
      → GoesOn w asked place put put old new [] others
  apart_goes put old new others same sees = λ forgets list visits begun recorded apart small way.
      subst (λ (xs : List Row). IsUnderWay w asked forgets list place visits begun put new xs (apart ++ others)) (sym (append-nil recorded)) (record {
        seen = sees forgets list visits recorded apart small way.seen;
        is_put = same_put begun put old.pending new.pending (text_shown w asked (left_of list recorded)) (ap (λ p. p.bytes.items) same) way.is_put;
      })

-- ---- among lines

-- each line could be told
pub could_be : (place : ℕ) (messages : Bool) (says : Line → Says) (are : Line → List ℕ → Type 0) (x : Line) (bytes : List ℕ) → AreBytes bytes × are x bytes
    → IsLineRecorded place messages says are x (row_of place (says x) (digits_after (has_message messages x.standing) bytes) ∷ [])
could_be place messages says are x bytes is = (digits_after (has_message messages x.standing) bytes, occurs_after (are x) _ bytes is, refl)

pub any_recorded : (place : ℕ) (messages : Bool) (says : Line → Says) (are : Line → List ℕ → Type 0) → ((x : Line) → (bytes : List ℕ) × AreBytes bytes × are x bytes) → (lines : List Line)
    → (recorded : List Row) × AreParts (IsLineRecorded place messages says are) lines recorded
any_recorded place messages says are some lines =
    all_parts (IsLineRecorded place messages says are) (λ x. row_of place (says x) (digits_after (has_message messages x.standing) (some x).0) ∷ [])
    (λ x. could_be place messages says are x (some x).0 ((some x).1, (some x).2)) lines

from_here : {X : Type 0} (xs : List X) (i : ℕ) (d : X) → i < length xs → take i xs ++ (get_or xs i d ∷ drop (i + 1) xs) ≡ xs
from_here xs i d less =
    sym (append_assoc (take i xs) (get_or xs i d ∷ []) (drop (i + 1) xs)) ∙ ap (λ ys. ys ++ drop (i + 1) xs) (sym (take_more xs i d less)) ∙ take-append-drop (i + 1) xs

module _ (w : Writing) (asked : Asked) (place : ℕ) (messages : Bool) (says : Line → Says) (are : Line → List ℕ → Type 0) (some : (x : Line) → (bytes : List ℕ) × AreBytes bytes × are x bytes) where
  -- it stops in the line at i
  pub stops_at : (fault : RunFault) (a b c : Option (List ℕ)) (old mid new : Listing) (lines : List Line) (i : ℕ) (x : Line) (recorded : List Row) → i < length lines → x ≡ get_or lines i x
      → AreParts (IsLineRecorded place messages says are) (take i lines) recorded → GoesOn w asked place a b old mid recorded [] → StopsAmong w asked place fault b c mid new (IsLineRecorded place messages says are) (x ∷ [])
      → StopsAmong w asked place fault a c old new (IsLineRecorded place messages says are) lines
  stops_at fault a b c old mid new lines i x recorded less is_x parts_are goes stops =
      let rest = any_recorded place messages says are some (drop (i + 1) lines) in
      let here : take i lines ++ (x ∷ drop (i + 1) lines) ≡ lines = ap (λ (y : Line). take i lines ++ (y ∷ drop (i + 1) lines)) is_x ∙ from_here lines i x less in
      let parts = both_ends (IsLineRecorded place messages says are) (take i lines) (x ∷ drop (i + 1) lines) recorded ((stops.more ++ stops.rest) ++ rest.0) parts_are
      (both_ends (IsLineRecorded place messages says are) (x ∷ []) (drop (i + 1) lines) (stops.more ++ stops.rest) rest.0 stops.are_parts rest.1) in
      let regrouped : recorded ++ ((stops.more ++ stops.rest) ++ rest.0) ≡ (recorded ++ stops.more) ++ (stops.rest ++ rest.0) =
      ap (λ (xs : List Row). recorded ++ xs) (append_assoc stops.more stops.rest rest.0) ∙ sym (append_assoc recorded stops.more (stops.rest ++ rest.0)) in record {
        more = recorded ++ stops.more;
        rest = stops.rest ++ rest.0;
        are_parts = subst (AreParts (IsLineRecorded place messages says are) lines) regrouped (subst (λ (xs : List Line). AreParts (IsLineRecorded place messages says are) xs (recorded ++ ((stops.more ++ stops.rest) ++ rest.0))) here parts);
        stops = stops_later w asked place fault a b c old mid new recorded stops.more [] goes stops.stops;
      }

  -- it stops before a line
  pub stops_before_line : (put : Option (List ℕ)) (old new : Listing) (x : Line) → new.pending ≡ old.pending → StopsAmong w asked place NoMemory put put old new (IsLineRecorded place messages says are) (x ∷ [])
  stops_before_line put old new x same =
      let one = row_of place (says x) (digits_after (has_message messages x.standing) (some x).0) ∷ [] in record {
        more = [];
        rest = one;
        are_parts = (one, [], could_be place messages says are x (some x).0 ((some x).1, (some x).2), refl, sym (append-nil one));
        stops = stops_here w asked place put old new same;
      }

  pub stops_in_line : (put_old put : Option (List ℕ)) (old new : Listing) (x : Line) (t : Row) → IsLineRecorded place messages says are x (t ∷ []) → StopsAfter w asked place Device put_old put old new (t ∷ [])
      → StopsAmong w asked place Device put_old put old new (IsLineRecorded place messages says are) (x ∷ [])
  stops_in_line put_old put old new x t is_t stops =
      record { more = t ∷ []; rest = []; are_parts = (t ∷ [], [], is_t, refl, refl); stops = stops }

-- a call that ended well leaves a sink that is sound
pub sound_ok : {X : Type 0} (x : X) (P : Type 0) → (Ok x ≡ Err Device) ↔ P → ¬ P
sound_ok x P device failed = let z : Ok x ≡ Err Device = device.1 failed in cc

same_fault : {X : Type 0} (r : Result X RunFault) (a b : RunFault) → r ≡ Err a → r ≡ Err b → a ≡ b
same_fault r a b e f = cc

-- whose fault is handed on
pub device_of : {X Y : Type 0} (r : Result X RunFault) (s : Result Y RunFault) (fault : RunFault) (P : Type 0) → r ≡ Err fault → s ≡ Err fault → (s ≡ Err Device) ↔ P → (r ≡ Err Device) ↔ P
device_of r s fault P is is_other device =
    (λ e. device.0 (is_other ∙ ap (λ f. Err f) (same_fault r fault Device is e)), λ p. (is ∙ ap (λ f. Err f) (same_fault s fault Device is_other (device.1 p))))

pub never_failed : (P : Type 0) → (false ≡ true) ↔ P → ¬ P
never_failed P failed was = let z : false ≡ true = failed.1 was in cc

-- ---- the commands of lines

or_none : (a b : Bool) → (a || b) ≡ false → (a ≡ false) × (b ≡ false)
or_none true b e = absurd (let z : true ≡ false = e in cc)
or_none false b e = (refl, e)

both_none : (p : Row → Bool) (xs ys : List Row) → list_any p xs ≡ false → list_any p ys ≡ false → list_any p (xs ++ ys) ≡ false
both_none p xs ys e f = list_any-append p xs ys ∙ (λ i. (e i || f i))

lines_of_place : (n place : ℕ) (messages : Bool) (says : Line → Says) (are : Line → List ℕ → Type 0) (lines : List Line) (recorded : List Row) → nat_eq n place ≡ false
    → AreParts (IsLineRecorded place messages says are) lines recorded → list_any (is_command n) recorded ≡ false
lines_of_place n place messages says are [] recorded other none = ap (list_any (is_command n)) none
lines_of_place n place messages says are (x ∷ lines) recorded other (front, rest, is_x, parts, e) =
    ap (list_any (is_command n)) e
    ∙ both_none (is_command n) front rest (ap (list_any (is_command n)) is_x.2 ∙ ap (λ (b : Bool). b || false) other) (lines_of_place n place messages says are lines rest other parts)

-- no line is of a command at another place
pub none_of_place : (s : Sides) (k : Stock) (messages meaning : Bool) (lengths : List ℕ) (n : ℕ) (places : List ℕ) (budget following : ℕ) (recorded apart : List Row)
    → AreBothParts (IsRecordedOf s k messages meaning lengths) places budget following recorded apart → list_any (nat_eq n) places ≡ false → (list_any (is_command n) recorded ≡ false) × (list_any (is_command n) apart ≡ false)
none_of_place s k messages meaning lengths n [] budget following recorded apart (same, none, no_other) other = (ap (list_any (is_command n)) none, ap (list_any (is_command n)) no_other)
none_of_place s k messages meaning lengths n (place ∷ places) budget following recorded apart (next, front, first, rest, others, is_recorded, are, e, f) other =
    let parts = or_none (nat_eq n place) (list_any (nat_eq n) places) other in let more = none_of_place s k messages meaning lengths n places next following rest others are parts.1 in (
      ap (list_any (is_command n)) e ∙ both_none (is_command n) front rest (lines_of_place n place messages _ _ is_recorded.shown front parts.0 is_recorded.recorded_are) more.0,
      ap (list_any (is_command n)) f ∙ both_none (is_command n) first others (lines_of_place n place false _ _ _ first parts.0 is_recorded.apart_are) more.1,
    )
