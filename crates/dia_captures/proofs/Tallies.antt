-- The tally of a run, with one more verdict.
use Rattle.std.proofs.Common.{◌≡◌, ℕ, suc, ◌+◌, Bool, true, false, List, [], ◌∷◌, ◌++◌, length, map, Option, refl, sym, ap, ap₂, subst, ◌∙◌, arith}
use Rattle.std.specs.Prelude.{if◌then◌else◌, unwrap_or}
use Rattle.std.proofs.lemmas.List.{append-nil, length-append, map_push}
use Rattle.std.proofs.lemmas.List.Sums.{sum_by-append}
use Rattle.std.proofs.lemmas.List.Concat.{flat_map-append}
use Rattle.dia_io.specs.declared.Exit.{Exit}
use Rattle.dia_captures.specs.declared.verdicts.Checked.{Checked}
use Rattle.dia_captures.specs.declared.verdicts.Flaw.{Flaw}
use Rattle.dia_captures.specs.declared.tally.Tally.{Tally}
use Rattle.dia_captures.specs.Ending.{ended_with, is_yes}
use Rattle.dia_captures.specs.Counts.{AreCounted, HasCounted, Item, checked_flaw, counted, in_lines, mets_at, mets_of, placed_item, placed_items, yes_of}
use Rattle.dia_captures.specs.Verdicts.{checked_exit}
use Rattle.dia_captures.proofs.Counting.{counted_more}
use Rattle.dia_captures.proofs.Endings.{ended_one_verdict_more}

module _ (old new : Tally) (items : List Item) (place : Option ℕ) (at : ℕ) (exit : Exit) (flaw : Option Flaw) where
  abbrev item : Item
  item = record { at = unwrap_or place (counted (length items + 1)); exit = exit; flaw = flaw }

  last_yes : (b : Bool) → is_yes exit ≡ b → yes_of (item ∷ []) ≡ (if b then 1 else 0)
  last_yes true is = ap (λ (b : Bool). 0 + (if b then 1 else 0)) is
  last_yes false is = ap (λ (b : Bool). 0 + (if b then 1 else 0)) is

  yes_more : (b : Bool) → is_yes exit ≡ b → yes_of (items ++ item ∷ []) ≡ yes_of items + (if b then 1 else 0)
  yes_more b is = sum_by-append (λ (i : Item). if is_yes i.exit then 1 else 0) items (item ∷ []) ∙ ap (λ (n : ℕ). yes_of items + n) (last_yes b is)

  one_yes_more : (b : Bool) → is_yes exit ≡ b → old.yes ≡ counted (yes_of items) → (if b then counted (old.yes + 1) else old.yes) ≡ counted (yes_of (items ++ item ∷ []))
  one_yes_more true is h = ap (λ (n : ℕ). counted (n + 1)) h ∙ counted_more (yes_of items) ∙ ap counted (sym (yes_more true is))
  one_yes_more false is h =
      let none : yes_of items ≡ yes_of items + 0 = omega arith in
      h ∙ ap counted (none ∙ sym (yes_more false is))

  pub HasCounted-more : new.ended ≡ ended_with old.ended exit → new.all ≡ counted (old.all + 1) → new.yes ≡ (if is_yes exit then counted (old.yes + 1) else old.yes)
      → at ≡ unwrap_or place new.all → ((mets : List (ℕ × Flaw)) → AreCounted old.reasons mets → AreCounted new.reasons (mets ++ mets_at at flaw))
      → HasCounted old items → HasCounted new (items ++ item ∷ [])
  HasCounted-more is_ended is_all is_yes_now is_at sees h =
      let all : new.all ≡ counted (length items + 1) = is_all ∙ ap (λ (n : ℕ). counted (n + 1)) h.all ∙ counted_more (length items) in
      let place_is : at ≡ item.at = is_at ∙ ap (unwrap_or place) all in
      record {
        ended = ended_one_verdict_more (λ (i : Item). i.exit) old.ended new.ended items item h.ended is_ended;
        all = all ∙ ap counted (sym (length-append items (item ∷ [])));
        yes = is_yes_now ∙ one_yes_more (is_yes exit) refl h.yes;
        reasons = subst (AreCounted new.reasons) (ap (λ (n : ℕ). mets_of items ++ mets_at n flaw) place_is ∙ sym (last ∙ ap (λ (ms : List (ℕ × Flaw)). mets_of items ++ ms) (append-nil
            (mets_at item.at flaw))))
            (sees (mets_of items) h.reasons);
      }
    where
      last : mets_of (items ++ item ∷ []) ≡ mets_of items ++ mets_of (item ∷ [])
      last = flat_map-append (λ (i : Item). mets_at i.at i.flaw) items (item ∷ [])

-- ---- lines

module _ {V : Type 0} (exit_of : V → Exit) (flaw_of : V → Option Flaw) where
  length_in_lines : (n : ℕ) (vs : List V) → length (in_lines exit_of flaw_of n vs) ≡ length vs
  length_in_lines n [] = refl
  length_in_lines n (v ∷ vs) = ap (λ (k : ℕ). suc k) (length_in_lines (suc n) vs)

  pub exits_in_lines : (n : ℕ) (vs : List V) → map (λ (i : Item). i.exit) (in_lines exit_of flaw_of n vs) ≡ map exit_of vs
  exits_in_lines n [] = refl
  exits_in_lines n (v ∷ vs) = ap (λ (es : List Exit). exit_of v ∷ es) (exits_in_lines (suc n) vs)

  abbrev item_at : ℕ → V → Item
  item_at n v = record { at = counted n; exit = exit_of v; flaw = flaw_of v }

  last_line : (n : ℕ) (vs : List V) (v : V) → in_lines exit_of flaw_of n (vs ++ v ∷ []) ≡ in_lines exit_of flaw_of n vs ++ item_at (n + length vs) v ∷ []
  last_line n [] v = ap (λ (k : ℕ). item_at k v ∷ []) (omega arith)
  last_line n (x ∷ xs) v =
      ap (λ (is : List Item). item_at n x ∷ is) (last_line (suc n) xs v
      ∙ ap (λ (k : ℕ). in_lines exit_of flaw_of (suc n) xs ++ item_at k v ∷ []) (omega arith))

  -- the next line was seen
  pub line_seen : (old new : Tally) (before : List V) (verdict : V) (exit : Exit) (flaw : Option Flaw) → exit ≡ exit_of verdict → flaw ≡ flaw_of verdict
      → ((items : List Item) → HasCounted old items → HasCounted new (items ++ (record { at = counted (length items + 1); exit = exit; flaw = flaw }) ∷ []))
      → HasCounted old (in_lines exit_of flaw_of 1 before) → HasCounted new (in_lines exit_of flaw_of 1 (before ++ verdict ∷ []))
  line_seen old new before verdict exit flaw is_exit is_flaw counts h =
      subst (HasCounted new)
      (ap₂ (λ (e : Exit) (f : Option Flaw). in_lines exit_of flaw_of 1 before ++ (record { at = counted (length (in_lines exit_of flaw_of 1 before) + 1); exit = e; flaw = f }) ∷ []) is_exit is_flaw
      ∙ ap (λ (k : ℕ). in_lines exit_of flaw_of 1 before ++ item_at k verdict ∷ []) (omega (arith, length_in_lines 1 before))
      ∙ sym (last_line 1 before verdict))
      (counts (in_lines exit_of flaw_of 1 before) h)

-- ---- messages of a stream

pub exits_placed : (verdicts : List (ℕ × Checked)) → map (λ (i : Item). i.exit) (placed_items verdicts) ≡ map (λ (v : ℕ × Checked). checked_exit v.1) verdicts
exits_placed [] = refl
exits_placed (v ∷ vs) = ap (λ (es : List Exit). checked_exit v.1 ∷ es) (exits_placed vs)

-- the next message was seen
pub placed_seen : (old new : Tally) (before : List (ℕ × Checked)) (verdict : ℕ × Checked) (exit : Exit) (flaw : Option Flaw) → exit ≡ checked_exit verdict.1
    → flaw ≡ checked_flaw verdict.1
    → ((items : List Item) → HasCounted old items → HasCounted new (items ++ (record { at = verdict.0; exit = exit; flaw = flaw }) ∷ []))
    → HasCounted old (placed_items before) → HasCounted new (placed_items (before ++ verdict ∷ []))
placed_seen old new before verdict exit flaw is_exit is_flaw counts h =
    subst (HasCounted new)
    (ap₂ (λ (e : Exit) (f : Option Flaw). placed_items before ++ (record { at = verdict.0; exit = e; flaw = f }) ∷ []) is_exit is_flaw ∙ sym (map_push placed_item before verdict))
    (counts (placed_items before) h)
