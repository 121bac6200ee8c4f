-- What is first in the list of what is wrong with an AVP.
use Rattle.std.proofs.Common.{◌≡◌, List, [], ◌∷◌, ◌++◌, Some, None, refl, sym, ap, subst, ◌∙◌, inl, inr, ⊎_elim}
use Rattle.std.specs.Prelude.{◌⊎◌}
use Rattle.std.proofs.lemmas.Option.{none-some, same_Some}
use Rattle.dia_wire.specs.Wire.{PlainAvp, key_of}
use Rattle.dia_data.specs.Plain.{Grouped}
use Rattle.dia_data.specs.Leaf.{IsLeaf, LengthFits}
use Rattle.dia_book.specs.Dictionary.{AreRules, Dictionary, DictEntry}
use Rattle.dia_terms.specs.declared.Unknown.{Unknown}
use Rattle.dia_terms.specs.declared.Levels.{Levels}
use Rattle.dia_valid.specs.Valid.{HasFlags, known}
use Rattle.dia_valid.specs.LongestRuns.{met}
use Rattle.dia_check.specs.declared.fault.Reason.{Reason}
use Rattle.dia_check.specs.declared.fault.Subject.{Subject}
use Rattle.dia_check.specs.declared.open_levels.Wrong.{Wrong}
use Rattle.dia_check.specs.Admission.{IsAdmitted}
use Rattle.dia_check.specs.OpenLevels.{IsFirstMisplaced}
use Rattle.dia_check.specs.Walks.{Rest, IsFine, IsFirstWrong}
use Rattle.dia_check.proofs.AvpFaults.{admitted, refused_by_flags, refused_by_place}
use Rattle.dia_check.proofs.RestOfLevels.{ByData, by_depth, by_length, by_value, either, first_wrong, fits_of}
use Rattle.dia_faults.specs.Levels.{AreOwn, IsFilled, IsFlagged, IsGoodData}
use Rattle.dia_faults.specs.Levels as levels
use Rattle.dia_faults.specs.Rules.{ArePlaced, missing_between}
use Rattle.dia_faults.specs.States.{rest_keys}
use Rattle.dia_faults.proofs.FirstMissing.{Firstly, IsFront, MetFrom, Says, firstly_between, front_after, misput_says, missing_first}

module _ (d : Dictionary) (u : Unknown) (most : Levels) (s : Rest) (v : PlainAvp) (are : AreRules s.level.rules) (front : IsFront s.level.rules (rest_keys s)) where
  -- nothing, and nothing is missing behind it; or the first
  abbrev pub OwnSays : List Wrong → Type 0
  OwnSays [] = IsFine d u most s v × IsFront s.level.rules (rest_keys s ++ key_of v ∷ [])
  OwnSays (w ∷ ws) = IsFirstWrong d u most s v w.reason w.subject

  misplaced : (w : Wrong) → HasFlags d u (key_of v) v.flags → IsFirstMisplaced s.level.rules (rest_keys s) (key_of v) w → IsFirstWrong d u most s v w.reason w.subject
  misplaced w holds first = first_wrong d u most s v w (inl (refused_by_place d u (key_of v) v.flags s.level.rules (rest_keys s) w holds first))

  no_data : (e : DictEntry) → known d (key_of v) ≡ Some e → IsGoodData most s.level.depth e v.bytes → (r : Reason) (t : Subject) → ByData d u most s v r t → ⊥
  no_data e some (leaf, opens) r t (by_length x other bad) =
      bad (subst (λ (y : DictEntry). LengthFits y.format v.bytes) (same_Some e x (sym some ∙ other)) (fits_of d u most e v.bytes leaf))
  no_data e some (leaf, opens) r t (by_value x other fits bad single) =
      ⊎_elim bad single (subst (λ (y : DictEntry). IsLeaf y.format v.bytes ⊎ (y.format ≡ Grouped)) (same_Some e x (sym some ∙ other)) leaf)
  no_data e some (leaf, opens) r t (by_depth x other is deep) = deep (opens (ap (λ (y : DictEntry). y.format) (same_Some e x (sym some ∙ other)) ∙ is))

  no_entry : known d (key_of v) ≡ None → (r : Reason) (t : Subject) → ByData d u most s v r t → ⊥
  no_entry none r t (by_length x other bad) = none-some x (sym none ∙ other)
  no_entry none r t (by_value x other fits bad single) = none-some x (sym none ∙ other)
  no_entry none r t (by_depth x other is deep) = none-some x (sym none ∙ other)

  module _ (admits : IsAdmitted d u s.level.rules (rest_keys s) (key_of v) v.flags) (following : IsFront s.level.rules (rest_keys s ++ key_of v ∷ [])) where
    by_data : (filled : List Wrong) → IsFilled d most s.level.depth v filled → OwnSays filled
    by_data filled (levels.IsFilled.unknown none) =
        (record { none_wrong = λ r t w. ⊎_elim (λ h. admits r t h) (λ h. no_entry none r t h) (either d u most s v r t w); leaf = λ e some. absurd (none-some e (sym none ∙ some)) }, following)
    by_data filled (levels.IsFilled.fine e some good) = (
      record {
        none_wrong = λ r t w. ⊎_elim (λ h. admits r t h) (λ h. no_data e some good r t h) (either d u most s v r t w);
        leaf = λ x other. subst (λ (y : DictEntry). IsLeaf y.format v.bytes ⊎ (y.format ≡ Grouped)) (same_Some e x (sym some ∙ other)) good.0;
      },
      following,
    )
    by_data filled (levels.IsFilled.wrong e r some bad) = first_wrong d u most s v _ (inr (admits, refl, (e, some, bad)))

  by_misput : (holds : HasFlags d u (key_of v) v.flags) (p : List Wrong) (place : ArePlaced s.level.rules (rest_keys s) (key_of v) p) → MetFrom (met s.level.rules (rest_keys s)) s.level.rules place.from place.to
      → (filled : List Wrong) → IsFilled d most s.level.depth v filled → OwnSays (place.misput ++ filled)
  by_misput holds p place enough filled is_filled =
      by place.misput (misput_says s.level.rules are (rest_keys s) front (key_of v) place.from place.to place.is_from place.is_to enough place.misput place.is_misput)
    where
      following : IsFront s.level.rules (rest_keys s ++ key_of v ∷ [])
      following = front_after s.level.rules are (rest_keys s) front (key_of v) place.from place.to place.is_from place.is_to enough

      by : (ws : List Wrong) → Says s.level.rules are (rest_keys s) front (key_of v) place.from place.to place.is_from place.is_to enough ws → OwnSays (ws ++ filled)
      by [] well = by_data (admitted d u (key_of v) v.flags s.level.rules (rest_keys s) holds well) following filled is_filled
      by (w ∷ ws) first = misplaced w holds first

  by_place : (holds : HasFlags d u (key_of v) v.flags) (p : List Wrong) (place : ArePlaced s.level.rules (rest_keys s) (key_of v) p)
      → (filled : List Wrong) → IsFilled d most s.level.depth v filled → OwnSays (p ++ filled)
  by_place holds p place filled is_filled =
      subst (λ (ws : List Wrong). OwnSays (ws ++ filled)) (sym place.parts)
      (by (missing_between s.level.rules (rest_keys s) place.from place.to) (firstly_between (met s.level.rules (rest_keys s)) s.level.rules place.from place.to))
    where
      by : (ws : List Wrong) → Firstly (met s.level.rules (rest_keys s)) s.level.rules place.from place.to ws → OwnSays ((ws ++ place.misput) ++ filled)
      by [] enough = by_misput holds p place enough filled is_filled
      by (w ∷ ws) first = misplaced w holds (missing_first s.level.rules are (rest_keys s) front (key_of v) place.from place.to place.is_from place.is_to w first)

  by_flags : (flags : List Wrong) → IsFlagged d u v flags → (p filled : List Wrong) → ArePlaced s.level.rules (rest_keys s) (key_of v) p → IsFilled d most s.level.depth v filled
      → OwnSays ((flags ++ p) ++ filled)
  by_flags flags (levels.IsFlagged.fine holds) p filled place is_filled = by_place holds p place filled is_filled
  by_flags flags (levels.IsFlagged.wrong w bad) p filled place is_filled =
      first_wrong d u most s v w (inl (refused_by_flags d u (key_of v) v.flags s.level.rules (rest_keys s) w bad))

  pub own_says : (wrongs : List Wrong) → AreOwn d u most s v wrongs → OwnSays wrongs
  own_says wrongs own = subst OwnSays (sym own.parts) (by_flags own.flags own.is_flagged own.place own.filled own.is_placed own.is_filled)
