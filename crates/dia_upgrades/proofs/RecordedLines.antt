-- What lines tell of the commands.
use Rattle.std.proofs.Common.{◌≡◌, ℕ, Bool, true, false, cond, get_or, map, List, [], ◌∷◌, ◌++◌, refl, sym, ap, subst, ◌∙◌}
use Rattle.std.specs.Prelude.{◌==◌, All, not, slice_get}
use Rattle.std.specs.List.{AllByRecursion}
use Rattle.std.proofs.Math.Logic.{∥∥₁_map}
use Rattle.std.proofs.lemmas.Bool.{eq-eqb}
use Rattle.std.proofs.lemmas.Option.{slice_get-get_or}
use Rattle.std.proofs.lemmas.List.Elements.{All-from_recursion, recursion_from_All}
use Rattle.dia_accepted.specs.Accepted.{PlainEntry}
use Rattle.dia_terms.specs.declared.sends.Sends.{Sends}
use Rattle.dia_terms.specs.declared.Unknown.{Unknown}
use Rattle.dia_book.specs.Dictionary.{Dictionary}
use Rattle.dia_book.proofs.Members.{at_filter, into_filter}
use Rattle.dia_breaking_sites.specs.Selection.{AreValid}
use Rattle.dia_breaking.specs.declared.line.Line.{Line}
use Rattle.dia_breaking.proofs.FreeOfLines.{nothing_recorded}
use Rattle.dia_breaking.proofs.Lists.{all_in, contains_at}
use Rattle.dia_breaking.specs.Confirmed.{most_checked_together}
use Rattle.dia_breaking.specs.Listing.{records}
use Rattle.dia_breaking.specs.Messages.{IsLineMessage, Stock}
use Rattle.dia_breaking.specs.Orders.{IsInOrderOf}
use Rattle.dia_breaking.specs.Sides.{Sides, sides}
use Rattle.dia_breaking.specs.TheMeanings.{AreTheMeanings}
use Rattle.dia_upgrades.specs.Outcome.{IsAcceptedBy, IsAcceptedWhole, IsReadAlike}
use Rattle.dia_upgrades.specs.Recorded.{AreShown, AreRecorded, IsLineRecorded, IsRecordedOf, number_at, place_of, says_at, words_at}
use Rattle.dia_upgrades.proofs.Parts.{of_both_parts, of_parts, split}
use Rattle.dia_upgrades.specs.Rows.{Row, is_accepted, left_of}

-- ---- lines that are accepted

-- where none is left, each is accepted
pub all_accepted : (list : List PlainEntry) (recorded : List Row) → left_of list recorded ≡ [] → AllByRecursion (λ t. is_accepted list t ≡ true) recorded
all_accepted list [] none = tt
all_accepted list (t ∷ recorded) none =
    by (is_accepted list t) refl none (all_accepted list recorded)
  where
    by : (b : Bool) → is_accepted list t ≡ b → cond (not b) (t ∷ left_of list recorded) (left_of list recorded) ≡ [] → (left_of list recorded ≡ [] → AllByRecursion (λ x. is_accepted list x ≡ true) recorded)
        → AllByRecursion (λ x. is_accepted list x ≡ true) (t ∷ recorded)
    by true e rest more = (e, more rest)
    by false e rest more = absurd (let z : t ∷ left_of list recorded ≡ [] = rest in cc)

no_members : {X : Type 0} (xs : List X) → AllByRecursion (λ x. ⊥) xs → xs ≡ []
no_members [] none = refl
no_members (x ∷ xs) (never, none) = absurd never

-- ---- lines that are shown

-- what holds of all members of a list in order holds of those that it was made of
all_before : {X : Type 0} (P : X → Type 0) (number : X → ℕ) (all sorted : List X) → IsInOrderOf number all sorted → All P sorted → All P all
all_before {X} P number all sorted order have i d within =
    let x = get_or all i d in
    let r = into_filter (λ (y : X). number y == number x) all i x (slice_get-get_or all i d within) (eq-eqb (number x) (number x) refl) in
    let back = at_filter (λ (y : X). number y == number x) sorted r.place x (ap (λ (zs : List X). slice_get zs r.place) (order.each (number x)) ∙ r.at) in
    all_in P sorted x have (contains_at sorted back.0 x back.1)

-- what holds of all lines that are shown holds of those of what breaks, and with `--meaning` of the meanings
shown_all : (P : Line → Type 0) (meaning : Bool) (lines meanings shown : List Line) → AreShown meaning lines meanings shown → AllByRecursion P shown
    → AllByRecursion P lines × (meaning ≡ true → AllByRecursion P meanings)
shown_all P false lines meanings shown is all = (subst (AllByRecursion P) is all, λ e. absurd (let z : false ≡ true = e in cc))
shown_all P true lines meanings shown is all =
    let before = all_before P place_of (lines ++ meanings) shown is (All-from_recursion P shown all) in
    let both = split P lines meanings (recursion_from_All P (lines ++ meanings) before) in (both.0, λ e. both.1)

module _ (a b : Dictionary) (who : Sends) (u : Unknown) (messages meaning : Bool) where
  abbrev s : Sides
  s = sides a b who u

  -- of a command of which nothing is told no line is shown
  none_shown : (k : Stock) (lengths : List ℕ) (place budget following : ℕ) (recorded apart : List Row) (is : IsRecordedOf s k messages meaning lengths place budget following recorded apart) → AllByRecursion (λ t. ⊥) recorded
      → AllByRecursion (λ x. ⊥) is.lines × (meaning ≡ true → AllByRecursion (λ x. ⊥) is.meanings)
  none_shown k lengths place budget following recorded apart is none =
      let says = says_at s lengths (number_at a place) is.sites in
      let are = IsLineMessage s k (number_at a place) is.sites in
      let line_never = λ (x : Line) (ys : List Row) (made : IsLineRecorded place messages says are x ys) (all : AllByRecursion (λ (t : Row). ⊥) ys).
      (subst (AllByRecursion (λ (t : Row). ⊥)) made.2 all).0 in
      let never = of_parts (IsLineRecorded place messages says are) (λ t. ⊥) (λ x. ⊥) line_never is.shown recorded is.recorded_are none in
      shown_all (λ x. ⊥) meaning is.lines is.meanings is.shown is.are_shown never

  -- each message that A's side sends is valid under B
  command_valid : (k : Stock) (lengths : List ℕ) (place budget following : ℕ) (recorded apart : List Row) → IsRecordedOf s k messages meaning lengths place budget following recorded apart → AllByRecursion (λ t. ⊥) recorded
      → ∥ AreValid a b who u (number_at a place) ∥₁
  command_valid k lengths place budget following recorded apart is none =
      let never = (none_shown k lengths place budget following recorded apart is none).0 in
      ∥∥₁_map is.free (λ valid. nothing_recorded a b who u is.sites is.lines (number_at a place) valid (no_members is.lines never))

  -- and with `--meaning` no AVP is read as another format
  command_alike : meaning ≡ true → (k : Stock) (lengths : List ℕ) (place budget following : ℕ) (recorded apart : List Row) → IsRecordedOf s k messages meaning lengths place budget following recorded apart
      → AllByRecursion (λ t. ⊥) recorded → IsReadAlike s (number_at a place)
  command_alike wanted k lengths place budget following recorded apart is none =
      let never = none_shown k lengths place budget following recorded apart is none in
      let no_meanings = no_members is.meanings (never.1 wanted) in
      record {
        sites = is.sites;
        no_meanings = subst (λ (meanings : List Line). ∥ AreTheMeanings s (number_at a place) is.sites (map records meanings) ∥₁) no_meanings is.are_meanings;
        as_sent = is.read_alike no_meanings;
      }

  pub recorded_valid : (places : List ℕ) (recorded apart : List Row) → AreRecorded s messages meaning places recorded apart → recorded ≡ []
      → AllByRecursion (λ place. ∥ AreValid a b who u (number_at a place) ∥₁) places
  recorded_valid places recorded apart is none =
      of_both_parts (IsRecordedOf s is.stock messages meaning is.lengths) (λ t. ⊥) (λ place. ∥ AreValid a b who u (number_at a place) ∥₁) (command_valid is.stock is.lengths)
      places most_checked_together is.following recorded apart is.each
      (subst (AllByRecursion (λ (t : Row). ⊥)) (sym none) tt)

  pub recorded_alike : (places : List ℕ) (recorded apart : List Row) → AreRecorded s messages meaning places recorded apart → recorded ≡ [] → meaning ≡ true
      → AllByRecursion (λ place. IsReadAlike s (number_at a place)) places
  recorded_alike places recorded apart is none wanted =
      of_both_parts (IsRecordedOf s is.stock messages meaning is.lengths) (λ t. ⊥) (λ place. IsReadAlike s (number_at a place)) (command_alike wanted is.stock is.lengths)
      places most_checked_together is.following recorded apart is.each
      (subst (AllByRecursion (λ (t : Row). ⊥)) (sym none) tt)

  -- a command all of whose lines are accepted
  pub recorded_accepted : (list : List PlainEntry) (places : List ℕ) (recorded apart : List Row) → AreRecorded s messages meaning places recorded apart → left_of list recorded ≡ []
      → AllByRecursion (λ place. IsAcceptedWhole s meaning list (number_at a place)) places
  recorded_accepted list places recorded apart is none =
      of_both_parts (IsRecordedOf s is.stock messages meaning is.lengths) (λ t. is_accepted list t ≡ true) (λ place. IsAcceptedWhole s meaning list (number_at a place)) each
      places most_checked_together is.following recorded apart is.each
      (all_accepted list recorded none)
    where
      each : (place budget following : ℕ) (recorded apart : List Row) → IsRecordedOf s is.stock messages meaning is.lengths place budget following recorded apart → AllByRecursion (λ t. is_accepted list t ≡ true) recorded
          → IsAcceptedWhole s meaning list (number_at a place)
      each place budget following recorded apart made all =
          let words = words_at s is.lengths (number_at a place) made.sites in
          let says = says_at s is.lengths (number_at a place) made.sites in
          let are = IsLineMessage s is.stock (number_at a place) made.sites in
          let line_accepted = λ (x : Line) (ys : List Row) (l : IsLineRecorded place messages says are x ys) (accepted : AllByRecursion (λ (t : Row). is_accepted list t ≡ true) ys).
          (subst (AllByRecursion (λ (t : Row). is_accepted list t ≡ true)) l.2 accepted).0 in
          let shown = of_parts (IsLineRecorded place messages says are) (λ t. is_accepted list t ≡ true) (IsAcceptedBy list words) line_accepted made.shown recorded made.recorded_are all in
          let both = shown_all (IsAcceptedBy list words) meaning made.lines made.meanings made.shown made.are_shown shown in
          record {
            lengths = is.lengths;
            sites = made.sites;
            lines = made.lines;
            meanings = made.meanings;
            are_shortest = is.are_shortest;
            are_lines = made.are_lines;
            are_meanings = made.are_meanings;
            accepted = both.0;
            meanings_accepted = both.1;
            free = made.free;
            all_meant = made.all_meant;
          }
