-- What is owed of the levels that are open: first the innermost, then the rest of those round it. What a checked AVP says of it.
use Rattle.std.proofs.Common.{◌≡◌, ◌≢◌, ℕ, ◌≤◌, List, [], ◌∷◌, ◌++◌, map, Option, Some, None, refl, sym, ap, subst, ◌∙◌, arith, inl, inr, ⊎_elim}
use Rattle.std.specs.Prelude.{slice_get, option_and_then, MatchOption, ◌⊎◌}
use Rattle.std.proofs.lemmas.List.{length-map}
use Rattle.std.proofs.lemmas.Option.{none-some, same_Some, MatchOption-at_some}
use Rattle.dia_wire.specs.declared.Key.{Key}
use Rattle.dia_wire.specs.Wire.{PlainAvp, key_of, BeginsWith}
use Rattle.dia_data.specs.Plain.{PlainFormat, Grouped}
use Rattle.dia_data.specs.Leaf.{IsLeaf, LengthFits}
use Rattle.dia_book.specs.declared.DRule.{DRule}
use Rattle.dia_book.specs.Dictionary.{Dictionary, DictEntry, PlainDefinition, definitions}
use Rattle.dia_terms.specs.declared.Unknown.{Unknown}
use Rattle.dia_terms.specs.declared.Levels.{Levels}
use Rattle.dia_check.specs.declared.fault.Reason.{Reason}
use Rattle.dia_check.specs.declared.fault.Reason.TheVariants as reason
use Rattle.dia_check.specs.declared.fault.Subject.{Subject}
use Rattle.dia_check.specs.declared.fault.Subject.TheVariants.{Avp}
use Rattle.dia_check.specs.declared.open_levels.Wrong.{Wrong}
use Rattle.dia_valid.specs.Valid.{known}
use Rattle.dia_check.specs.Levels.{MayOpen}
use Rattle.dia_check.specs.Reasons.{row_of}
use Rattle.dia_check.specs.Faults.{subject_of, IsWrong}
use Rattle.dia_check.specs.Faults as faults
use Rattle.dia_check.specs.OpenLevels.{missing, not_allowed, too_many}
use Rattle.dia_check.specs.Admission.{IsRefused, unknown, m_bit, misplaced, IsFineData, IsWrongData, IsFineAvp, IsWrongAvp}
use Rattle.dia_check.specs.UnderWay.{Owes}
use Rattle.dia_check.specs.Walks.{Found, Rest, following, inside, IsFine, IsFirstWrong, Walks, group, bad_group}
use Rattle.dia_valid.specs.Valid.{group_at}
use Rattle.dia_check.proofs.AvpFaults.{no_number}
use Rattle.dia_data.proofs.Leaves.{leaf_fits}

-- ---- what is owed

module _ (d : Dictionary) (u : Unknown) (most : Levels) where
  -- an AVP that is passed
  pub Owes-passed : (rs : List Rest) (s next : Rest) (f : Option Found) → ((g : Option Found) → Walks d u most next g → Walks d u most s g) → Owes d u most rs next f → Owes d u most rs s f
  Owes-passed [] s next f go h = go f h
  Owes-passed (r ∷ rs) s next f go (inl (inner, outer)) = inl (Owes-passed rs s next None go inner, outer)
  Owes-passed (r ∷ rs) s next f go (inr (g, inner, is)) = inr (g, Owes-passed rs s next (Some g) go inner, is)

  -- a group that is entered
  pub Owes-entered : (rs : List Rest) (s : Rest) (v : PlainAvp) (rest : List ℕ) (g : PlainDefinition) (f : Option Found) → BeginsWith v s.bytes rest → IsFine d u most s v → group_at d v ≡ Some g
      → Owes d u most (rs ++ following s v rest ∷ []) (inside s v g) f → Owes d u most rs s f
  Owes-entered [] s v rest g f begins fine is (inl (inner, outer)) = group v rest g begins fine is inner outer
  Owes-entered [] s v rest g f begins fine is (inr (h, inner, same)) = bad_group v rest g h begins fine is inner same
  Owes-entered (r ∷ rs) s v rest g f begins fine is (inl (inner, outer)) = inl (Owes-entered rs s v rest g None begins fine is inner, outer)
  Owes-entered (r ∷ rs) s v rest g f begins fine is (inr (h, inner, same)) = inr (h, Owes-entered rs s v rest g (Some h) begins fine is inner, same)

  -- a level that is done
  pub Owes-done : (rs : List Rest) (r s : Rest) (f : Option Found) → Walks d u most s None → Owes d u most rs r f → Owes d u most (rs ++ r ∷ []) s f
  Owes-done [] r s f done h = inl (done, h)
  Owes-done (q ∷ rs) r s f done (inl (inner, outer)) = inl (Owes-done rs r s None done inner, outer)
  Owes-done (q ∷ rs) r s f done (inr (g, inner, same)) = inr (g, Owes-done rs r s (Some g) done inner, same)

  -- what is found ends it all
  pub Owes-found : (rs : List Rest) (s : Rest) (h : Found) → Walks d u most s (Some h) → Owes d u most rs s (Some h)
  Owes-found [] s h w = w
  Owes-found (r ∷ rs) s h w = inr (h, Owes-found rs s h w, refl)

  -- ---- an AVP of the rest of a level, by what a checker knows of it

  refused_wrong : (s : Rest) (v : PlainAvp) (r : Reason) (t : Subject) → IsRefused d u s.level.rules (map key_of s.earlier) (key_of v) v.flags r t → IsWrong d u most s.level s.earlier v r t
  refused_wrong s v r t (unknown none bad) = faults.unknown none bad
  refused_wrong s v r t (m_bit e some bad) = faults.m_bit e some bad
  refused_wrong s v r t (misplaced q w (missing i rule first end)) = faults.missing i rule first (end ∙ length-map s.earlier key_of)
  refused_wrong s v r t (misplaced q w (not_allowed (loose, bad))) = faults.not_allowed (omega (arith, loose, length-map s.earlier key_of)) bad
  refused_wrong s v r t (misplaced q w (too_many i rule max at is before now)) = faults.too_many i rule (record { is_rule = at; max = max; is_max = is; before = before; now = now })

  refused_row : (rules : List DRule) (keys : List Key) (key : Key) (flags : ℕ) (r : Reason) (t : Subject) → IsRefused d u rules keys key flags r t → row_of r ≤ 11
  refused_row rules keys key flags r t (misplaced q w (missing i rule first end)) = omega arith
  refused_row rules keys key flags r t (misplaced q w other) = omega arith
  refused_row rules keys key flags r t other = omega arith

  -- what is wrong by its data
  pub data ByData (s : Rest) (v : PlainAvp) : Reason → Subject → Type 0 where
    by_length : (e : DictEntry) → known d (key_of v) ≡ Some e → ¬ LengthFits e.format v.bytes → ByData s v reason.LeafLength (Avp (key_of v))
    by_value : (e : DictEntry) → known d (key_of v) ≡ Some e → LengthFits e.format v.bytes → ¬ IsLeaf e.format v.bytes → e.format ≢ Grouped → ByData s v reason.LeafValue (Avp (key_of v))
    by_depth : (e : DictEntry) → known d (key_of v) ≡ Some e → e.format ≡ Grouped → ¬ MayOpen most s.level.depth → ByData s v reason.Depth (Avp (key_of v))

  pub either : (s : Rest) (v : PlainAvp) (r : Reason) (t : Subject) → IsWrong d u most s.level s.earlier v r t → IsRefused d u s.level.rules (map key_of s.earlier) (key_of v) v.flags r t ⊎ ByData s v r t
  either s v r t (faults.unknown none bad) = inl (unknown none bad)
  either s v r t (faults.m_bit e some bad) = inl (m_bit e some bad)
  either s v r t (faults.missing i rule first end) = inl (misplaced reason.Missing (subject_of rule.key) (missing i rule first (end ∙ sym (length-map s.earlier key_of))))
  either s v r t (faults.not_allowed loose bad) = inl (misplaced reason.NotAllowed (Avp (key_of v)) (not_allowed (omega (arith, loose, length-map s.earlier key_of), bad)))
  either s v r t (faults.too_many i rule p) = inl (misplaced reason.TooMany (Avp (key_of v)) (too_many i rule p.max p.is_rule p.is_max p.before p.now))
  either s v r t (faults.leaf_length e some bad) = inr (by_length e some bad)
  either s v r t (faults.leaf_value e some fits bad single) = inr (by_value e some fits bad single)
  either s v r t (faults.depth e some is_group deep) = inr (by_depth e some is_group deep)

  data_row : (s : Rest) (v : PlainAvp) (r : Reason) (t : Subject) → ByData s v r t → 12 ≤ row_of r
  data_row s v r t (by_length e some bad) = omega arith
  data_row s v r t other = omega arith

  pub fits_of : (e : DictEntry) (bytes : List ℕ) → IsLeaf e.format bytes ⊎ (e.format ≡ Grouped) → LengthFits e.format bytes
  fits_of e bytes (inl l) = leaf_fits e.format bytes l
  fits_of e bytes (inr is) = subst (λ (f : PlainFormat). LengthFits f bytes) (sym is) tt

  -- nothing is wrong with it
  pub is_fine : (s : Rest) (v : PlainAvp) (n : Option ℕ) → IsFineAvp d u most s.level.depth s.level.rules (map key_of s.earlier) v n → IsFine d u most s v
  is_fine s v n (admits, says) = record {
    none_wrong = λ r t w. ⊎_elim (λ h. admits r t h) (λ h. none r t h) (either s v r t w);
    leaf = λ e some. (fine e some).leaf;
  }
    where
      fine : (e : DictEntry) → known d (key_of v) ≡ Some e → IsFineData d most s.level.depth e v.bytes n
      fine e some = MatchOption-at_some (n ≡ None) (λ (x : DictEntry). IsFineData d most s.level.depth x v.bytes n) e some says

      none : (r : Reason) (t : Subject) → ByData s v r t → ⊥
      none r t (by_length e some bad) = bad (fits_of e v.bytes (fine e some).leaf)
      none r t (by_value e some fits bad single) = ⊎_elim bad single (fine e some).leaf
      none r t (by_depth e some is_group deep) = deep ((fine e some).opens is_group)

  -- the definition of a group
  pub group_is : (s : Rest) (v : PlainAvp) (n : ℕ) → IsFineAvp d u most s.level.depth s.level.rules (map key_of s.earlier) v (Some n)
      → (g : PlainDefinition) × (group_at d v ≡ Some g) × (slice_get (definitions d) n ≡ Some g)
  group_is s v n (admits, says) = by (known d (key_of v)) refl says
    where
      by : (o : Option DictEntry) → known d (key_of v) ≡ o → MatchOption o (Some n ≡ None) (λ e. IsFineData d most s.level.depth e v.bytes (Some n))
          → (g : PlainDefinition) × (group_at d v ≡ Some g) × (slice_get (definitions d) n ≡ Some g)
      by None is h = absurd (none-some n (sym h))
      by (Some e) is h = let (g, some, at) = h.definition in (g, ap (λ (o : Option DictEntry). option_and_then (λ x. x.group) o) is ∙ some, at)

  pub no_group : (s : Rest) (v : PlainAvp) → IsFineAvp d u most s.level.depth s.level.rules (map key_of s.earlier) v None → group_at d v ≡ None
  no_group s v (admits, says) = by (known d (key_of v)) refl says
    where
      by : (o : Option DictEntry) → known d (key_of v) ≡ o → MatchOption o (no_number ≡ no_number) (λ e. IsFineData d most s.level.depth e v.bytes None) → group_at d v ≡ None
      by None is h = ap (λ (o : Option DictEntry). option_and_then (λ x. x.group) o) is
      by (Some e) is h = ap (λ (o : Option DictEntry). option_and_then (λ x. x.group) o) is ∙ h.definition

  -- the first thing that is wrong with it
  pub first_wrong : (s : Rest) (v : PlainAvp) (w : Wrong) → IsWrongAvp d u most s.level.depth s.level.rules (map key_of s.earlier) v w → IsFirstWrong d u most s v w.reason w.subject
  first_wrong s v w (inl first) = record {
    wrong = refused_wrong s v w.reason w.subject first.refused;
    none_sooner = λ q t x. ⊎_elim (λ h. first.none_sooner q t h) (λ h. later q t h) (either s v q t x);
  }
    where
      later : (q : Reason) (t : Subject) → ByData s v q t → row_of w.reason ≤ row_of q
      later q t h = omega (arith, refused_row s.level.rules (map key_of s.earlier) (key_of v) v.flags w.reason w.subject first.refused, data_row s v q t h)
  first_wrong s v w (inr (admits, subject, (e, some, bad))) = subst (λ (t : Subject). IsFirstWrong d u most s v w.reason t) (sym subject) (by w.reason bad)
    where
      same_entry : (x : DictEntry) → known d (key_of v) ≡ Some x → e ≡ x
      same_entry x other = same_Some e x (sym some ∙ other)

      sooner : (r : Reason) → ((q : Reason) (t : Subject) → ByData s v q t → row_of r ≤ row_of q) → (q : Reason) (t : Subject) → IsWrong d u most s.level s.earlier v q t → row_of r ≤ row_of q
      sooner r below q t x = ⊎_elim (λ h. absurd (admits q t h)) (λ h. below q t h) (either s v q t x)

      after_length : LengthFits e.format v.bytes → (q : Reason) (t : Subject) → ByData s v q t → 13 ≤ row_of q
      after_length fits q t (by_length x other no_fit) = absurd (no_fit (subst (λ (y : DictEntry). LengthFits y.format v.bytes) (same_entry x other) fits))
      after_length fits q t later = omega arith

      after_value : IsLeaf e.format v.bytes ⊎ (e.format ≡ Grouped) → (q : Reason) (t : Subject) → ByData s v q t → 14 ≤ row_of q
      after_value has q t (by_length x other no_fit) = absurd (no_fit (subst (λ (y : DictEntry). LengthFits y.format v.bytes) (same_entry x other) (fits_of e v.bytes has)))
      after_value has q t (by_value x other f b single) = absurd (⊎_elim b single (subst (λ (y : DictEntry). IsLeaf y.format v.bytes ⊎ (y.format ≡ Grouped)) (same_entry x other) has))
      after_value has q t later = omega arith

      by : (r : Reason) → IsWrongData most s.level.depth e v.bytes r → IsFirstWrong d u most s v r (Avp (key_of v))
      by reason.LeafLength no_fit = record { wrong = faults.leaf_length e some no_fit; none_sooner = sooner reason.LeafLength (λ q t h. data_row s v q t h) }
      by reason.LeafValue (fits, b, single) = record { wrong = faults.leaf_value e some fits b single; none_sooner = sooner reason.LeafValue (λ q t h. after_length fits q t h) }
      by reason.Depth (has, is, deep) = record { wrong = faults.depth e some is deep; none_sooner = sooner reason.Depth (λ q t h. after_value has q t h) }
      by other h = absurd h
