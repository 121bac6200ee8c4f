-- The level that is written for a line of two definitions shows it.
use Rattle.std.proofs.Common.{◌≡◌, ℕ, ◌<◌, Bool, true, false, List, [], ◌∷◌, ◌++◌, Option, Some, None, refl, sym, ap, subst, ◌∙◌, inl, inr}
use Rattle.std.specs.Prelude.{◌⊎◌, nat_lt, filter_map, find, if◌then◌else◌}
use Rattle.std.proofs.lemmas.Bool.{ltb-true}
use Rattle.std.proofs.lemmas.Option.{none-some, same_Some}
use Rattle.dia_wire.specs.declared.Key.{Key}
use Rattle.dia_book.specs.declared.DRule.{DRule}
use Rattle.dia_book.specs.Dictionary.{AreRules}
use Rattle.dia_book.proofs.Members.{at_filter_map}
use Rattle.dia_valid.proofs.Members.{IsIn, at_in, in_append, in_at, in_contains}
use Rattle.dia_breaking_levels.specs.declared.cut.Cut.{Cut}
use Rattle.dia_breaking_levels.specs.declared.floor.Floor.{Floor}
use Rattle.dia_breaking_levels.specs.declared.line.Line.{Line}
use Rattle.dia_breaking_levels.specs.declared.line.Part.{Part}
use Rattle.dia_breaking_levels.specs.declared.line.Reason.{Reason}
use Rattle.dia_breaking_levels.specs.declared.line.Reason.TheVariants.{Missing, MissingOthers, NotAllowed, NotAllowedOther, Order, TooMany, TooManyOthers}
use Rattle.dia_breaking_levels.specs.Chosen.{IsCutFor, IsLineLevel, Reads, level_parts, reads_between, reason_demand}
use Rattle.dia_breaking_levels.specs.CountsAndRanks.{AreSound}
use Rattle.dia_breaking_levels.specs.Exact.{AreOrderLines, IsOrderOf, floor_between, with_line}
use Rattle.dia_breaking_levels.specs.Levels.{ShowsAt}
use Rattle.dia_breaking_levels.specs.OrderTests.{pair_length}
use Rattle.dia_breaking_levels.specs.LevelTests.{too_long, is_outside, length_of, line_of, lines_of}
use Rattle.dia_breaking_levels.specs.Steps.{IsLeastMost}
use Rattle.dia_breaking_levels.specs.Showing.{HaveLengths, LinesAreShown, part_keys}
use Rattle.dia_breaking_levels.proofs.CountsAndRanks.{rules_sound}
use Rattle.dia_breaking_levels.proofs.ShownFew.{missing_shown}
use Rattle.dia_breaking_levels.proofs.ShownMany.{not_allowed_other_shown, not_allowed_shown, too_many_shown}
use Rattle.dia_breaking_levels.proofs.ShownMost.{too_many_others_shown}
use Rattle.dia_breaking_levels.proofs.ShownOrder.{order_shown}
use Rattle.dia_breaking_levels.proofs.ShownOthers.{missing_others_shown}

module _ (listed other : Key → ℕ) (keys : List Key) (a b : List DRule) (are_a : AreRules a) (are_b : AreRules b) (have : HaveLengths listed) (have_other : HaveLengths other) where
  abbrev r : Reads
  r = reads_between a b listed other keys

  abbrev f : Floor
  f = floor_between listed other keys a b

  sound_a : AreSound a
  sound_a = rules_sound a are_a

  sound_b : AreSound b
  sound_b = rules_sound b are_b

  abbrev IsShown : Line → Type 0
  IsShown line = (parts : List Part) → IsLineLevel r line parts → ShowsAt a b (part_keys parts) line.reason line.key

  -- what the line demands shows it
  shown_by : (line : Line)
      → ((cut : Cut) → IsCutFor r line.reason cut → ShowsAt a b (part_keys (level_parts a (reason_demand r cut line.reason line.key line.following))) line.reason line.key) → IsShown line
  shown_by line each parts (d, (cut, is, same), parts_are) =
      subst (λ (ps : List Part). ShowsAt a b (part_keys ps) line.reason line.key) (sym (parts_are ∙ ap (level_parts a) same)) (each cut is)

  -- ---- lines of counts

  abbrev line_by : Reason → ℕ → DRule → Line
  line_by reason most rule = record { reason = reason; key = rule.key; following = None; length = length_of reason f most listed other a b rule }

  a_line : (reason : Reason) (most : ℕ) (rule : DRule) (line : Line) → line_of reason f most listed other a b rule ≡ Some line
      → (length_of reason f most listed other a b rule < too_long) × (line_by reason most rule ≡ line)
  a_line reason most rule line is = by (nat_lt (length_of reason f most listed other a b rule) too_long) refl is
    where
      by : (t : Bool) → nat_lt (length_of reason f most listed other a b rule) too_long ≡ t → (if t then Some (line_by reason most rule) else None) ≡ Some line
          → (length_of reason f most listed other a b rule < too_long) × (line_by reason most rule ≡ line)
      by true e h = (ltb-true (length_of reason f most listed other a b rule) too_long e, same_Some (line_by reason most rule) line h)
      by false e h = absurd (none-some line h)

  of_reason : (reason : Reason) (most : ℕ) (rules : List DRule)
      → ((rule : DRule) → IsIn rule rules → length_of reason f most listed other a b rule < too_long → (cut : Cut) → IsCutFor r reason cut
      → ShowsAt a b (part_keys (level_parts a (reason_demand r cut reason rule.key None))) reason rule.key) → (line : Line)
      → IsIn line (filter_map (line_of reason f most listed other a b) rules) → IsShown line
  of_reason reason most rules each line i =
      let p = at_in (filter_map (line_of reason f most listed other a b) rules) line i in
      let found = at_filter_map (line_of reason f most listed other a b) rules p.place line p.at in
      let parts = a_line reason most found.1 line found.3 in
      subst IsShown parts.1 (shown_by (line_by reason most found.1) (each found.1 (in_at rules found.0 found.1 found.2) parts.0))

  abbrev lines_by : Reason → ℕ → List DRule → List Line
  lines_by reason most rules = filter_map (line_of reason f most listed other a b) rules

  of_counts : (most : ℕ) → IsLeastMost listed f a b most → (line : Line) → IsIn line (lines_of f most listed other a b) → IsShown line
  of_counts most is_most line i = too_many_others (in_append _ (lines_by TooManyOthers most b) line i)
    where
      missing : IsIn line (lines_by Missing most b) → IsShown line
      missing j = of_reason Missing most b (λ rule k short cut is. missing_shown listed other keys a b sound_a sound_b rule k short) line j

      too_many : IsIn line (lines_by Missing most b) ⊎ IsIn line (lines_by TooMany most b) → IsShown line
      too_many (inl j) = missing j
      too_many (inr j) = of_reason TooMany most b (λ rule k short cut is. too_many_shown listed other keys a b sound_b have have_other rule k short) line j

      not_allowed : IsIn line (lines_by Missing most b ++ lines_by TooMany most b) ⊎ IsIn line (lines_by NotAllowed most a) → IsShown line
      not_allowed (inl j) = too_many (in_append (lines_by Missing most b) (lines_by TooMany most b) line j)
      not_allowed (inr j) = of_reason NotAllowed most a (λ rule k short cut is. not_allowed_shown listed other keys a b sound_b have have_other rule k short) line j

      not_allowed_other : IsIn line (lines_by Missing most b ++ lines_by TooMany most b ++ lines_by NotAllowed most a) ⊎ IsIn line (lines_by NotAllowedOther most a) → IsShown line
      not_allowed_other (inl j) = not_allowed (in_append (lines_by Missing most b ++ lines_by TooMany most b) (lines_by NotAllowed most a) line j)
      not_allowed_other (inr j) = of_reason NotAllowedOther most a (λ rule k short cut is. not_allowed_other_shown listed other keys a b sound_b have have_other rule k short) line j

      missing_others : IsIn line (lines_by Missing most b ++ lines_by TooMany most b ++ lines_by NotAllowed most a ++ lines_by NotAllowedOther most a) ⊎
          IsIn line (lines_by MissingOthers most b) → IsShown line
      missing_others (inl j) = not_allowed_other (in_append (lines_by Missing most b ++ lines_by TooMany most b ++ lines_by NotAllowed most a) (lines_by NotAllowedOther most a) line j)
      missing_others (inr j) = of_reason MissingOthers most b (λ rule k short cut is. missing_others_shown listed other keys a b sound_a sound_b have rule k short) line j

      too_many_others : IsIn line (lines_by Missing most b ++ lines_by TooMany most b ++ lines_by NotAllowed most a ++ lines_by NotAllowedOther most a ++ lines_by MissingOthers most b) ⊎
          IsIn line (lines_by TooManyOthers most b) → IsShown line
      too_many_others (inl j) =
          missing_others
          (in_append (lines_by Missing most b ++ lines_by TooMany most b ++ lines_by NotAllowed most a ++ lines_by NotAllowedOther most a) (lines_by MissingOthers most b) line j)
      too_many_others (inr j) =
          of_reason TooManyOthers most b (λ rule k short cut is. too_many_others_shown listed other keys a b sound_b have have_other rule most cut k is_most short is) line j

  -- ---- lines of the order

  of_orders : (outer : Option Key) (rules : List DRule) (lines : List Line) → AreOrderLines f listed other a b outer rules lines → (line : Line) → IsIn line lines → IsShown line
  of_orders outer [] lines are line i = absurd (subst (IsIn line) are i)
  of_orders outer (rule ∷ rules) lines (recorded, rest, is, lines_are, more) line i = by recorded rule.key is (subst (IsIn line) lines_are i) (of_orders outer rules rest more line)
    where
      by : (recorded : Option Line) (o : Option Key) → IsOrderOf f listed other a b outer o recorded → IsIn line (with_line recorded rest) → (IsIn line rest → IsShown line) → IsShown line
      by None o none j ih = ih j
      by (Some l) None none j ih = absurd (none-some l (sym none))
      by (Some l) (Some y) (x, may, first, short, same) (inl e) ih =
          subst IsShown (sym (e ∙ same)) (shown_by (record { reason = Order; key = Some y; following = Some x; length = pair_length f listed other a y x })
          (λ cut none. order_shown listed other keys a b are_a are_b x y may.1 short))
      by (Some l) (Some y) at (inr j) ih = ih j

pub lines_shown : LinesAreShown
lines_shown listed other keys a b lines line parts are_a are_b have have_other (counts, orders, lines_are, (most, is_most, unbounded, counts_are), order_lines) there level =
    by (in_append counts orders line (subst (IsIn line) lines_are (in_contains lines line there)))
  where
    by : IsIn line counts ⊎ IsIn line orders → ShowsAt a b (part_keys parts) line.reason line.key
    by (inl i) = of_counts listed other keys a b are_a are_b have have_other most is_most line (subst (IsIn line) counts_are i) parts level
    by (inr i) = of_orders listed other keys a b are_a are_b have have_other (find (is_outside a b) keys) b orders order_lines line i parts level
