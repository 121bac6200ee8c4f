-- All that is wrong with an AVP, from its flags, its place and its data.
use Rattle.std.proofs.Common.{◌≡◌, ℕ, List, [], ◌∷◌, ◌++◌, map, refl, sym, subst}
use Rattle.dia_wire.specs.declared.Key.{Key}
use Rattle.dia_wire.specs.Wire.{PlainAvp, key_of}
use Rattle.dia_book.specs.Dictionary.{Dictionary}
use Rattle.dia_terms.specs.declared.Unknown.{Unknown}
use Rattle.dia_terms.specs.declared.Levels.{Levels}
use Rattle.dia_valid.specs.Valid.{HasFlags}
use Rattle.dia_check.specs.declared.open_levels.Wrong.{Wrong}
use Rattle.dia_check.specs.Admission.{IsWrongFlags}
use Rattle.dia_check.specs.Recording.{recorded}
use Rattle.dia_check.specs.Walks.{Rest}
use Rattle.dia_faults.specs.declared.collector.Collector.{Collector}
use Rattle.dia_faults.specs.Collecting.{Adds}
use Rattle.dia_faults.specs.Levels.{AreOwn, IsFilled, IsFlagged, fine, wrong}
use Rattle.dia_faults.specs.Rules.{ArePlaced}
use Rattle.dia_faults.specs.States.{IsCounted, rest_keys}
use Rattle.dia_faults.proofs.Collecting.{adds_none, adds_wrongs}
use Rattle.dia_faults.proofs.JudgedKeys.{Judged}

abbrev pub JudgedAvp : Dictionary → Unknown → Levels → PlainAvp → ℕ → Rest → Collector → Collector → List (ℕ × ℕ) → ℕ → ℕ → Type 0
JudgedAvp d u most v at s old new counts start run =
    ((wrongs : List Wrong) × AreOwn d u most s v wrongs × Adds old new (map (recorded at) wrongs)) × IsCounted counts start run s.level.rules (rest_keys s ++ key_of v ∷ [])

module _ (d : Dictionary) (u : Unknown) (v : PlainAvp) (key : Key) (is_key : key ≡ key_of v) (at : ℕ) where
  abbrev pub Flagged : Collector → Collector → Type 0
  Flagged old new = (flags : List Wrong) × IsFlagged d u v flags × Adds old new (map (recorded at) flags)

  pub flagged : (old new : Collector) (w : Wrong) (p : Collector) → IsWrongFlags d u key v.flags w → new ≡ p → Adds old p (recorded at w ∷ []) → Flagged old new
  flagged old new w p bad is_p added =
      (w ∷ [], wrong w (subst (λ (k : Key). IsWrongFlags d u k v.flags w) is_key bad), subst (λ (q : Collector). Adds old q (recorded at w ∷ [])) (sym is_p) added)

  pub not_flagged : (old new : Collector) → HasFlags d u key v.flags → new ≡ old → Flagged old new
  not_flagged old new holds same = ([], fine (subst (λ (k : Key). HasFlags d u k v.flags) is_key holds), subst (λ (q : Collector). Adds old q []) (sym same) (adds_none old))

  pub own : (most : Levels) (s : Rest) (depth : ℕ) → s.level.depth ≡ depth → (first second third fourth : Collector) (counts : List (ℕ × ℕ)) (start run : ℕ)
      → Flagged first second → Judged second third at counts start run s.level.rules (rest_keys s) key
      → (filled : List Wrong) × IsFilled d most depth v filled × Adds third fourth (map (recorded at) filled) → JudgedAvp d u most v at s first fourth counts start run
  own most s depth deep first second third fourth counts start run (flags, is_flagged, added_flags) ((place, is_placed, added_place), counted) (filled, is_filled, added_data) = (
    (
      (flags ++ place) ++ filled,
      record {
        flags = flags;
        place = place;
        filled = filled;
        is_flagged = is_flagged;
        is_placed = subst (λ (k : Key). ArePlaced s.level.rules (rest_keys s) k place) is_key is_placed;
        is_filled = subst (λ (n : ℕ). IsFilled d most n v filled) (sym deep) is_filled;
        parts = refl;
      },
      adds_wrongs at first third fourth (flags ++ place) filled (adds_wrongs at first second third flags place added_flags added_place) added_data,
    ),
    subst (λ (k : Key). IsCounted counts start run s.level.rules (rest_keys s ++ k ∷ [])) is_key counted,
  )
