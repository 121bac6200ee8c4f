-- A message has one list of rows, and one text for them.
use Rattle.std.proofs.Common.{◌≡◌, ℕ, ◌+◌, ◌<◌, Bool, true, false, List, [], ◌∷◌, ◌++◌, length, refl, sym, ap, ◌∙◌, arith, inl, inr}
use Rattle.std.specs.Prelude.{◌⊎◌}
use Rattle.std.proofs.lemmas.Bool.{both_ways, false≢true}
use Rattle.std.proofs.lemmas.List.{append_cancel_left, length-append}
use Rattle.dia_wire.specs.Wire.{PlainAvp, avp_length, BeginsWith, BeginsWithNone}
use Rattle.dia_wire.proofs.Spelling.{one_spelling, opened, rounded-le, at_least_8}
use Rattle.dia_dict.specs.Dictionary.{Dictionary}
use Rattle.dia_run.specs.Rows.{AreRows, AreWritten, Level, Row, after, bad_group, bad_length, end, group, inside, is_group, known_avp, leaf, of_bad_length, row_of}

-- ---- the front of a level

one_front : (level : List ℕ) (v w : PlainAvp) (rest more : List ℕ) → BeginsWith v level rest → BeginsWith w level more → (v ≡ w) × (rest ≡ more)
one_front level v w rest more (a, s, p) (b, t, q) =
    let o = one_spelling v w a b rest more s t (sym p ∙ q) in
    (o.0, append_cancel_left a rest more (sym p ∙ q ∙ ap (λ (f : List ℕ). f ++ more) (sym o.1)))

begins_some : (v : PlainAvp) (level rest : List ℕ) → BeginsWith v level rest → 0 < length level
begins_some v level rest (front, s, p) =
    let o = opened v front rest s in
    let whole : length level ≡ length front + length rest = ap length p ∙ length-append front rest in
    omega (arith, whole, o.front_length, rounded-le (avp_length v), at_least_8 v.vendor)

-- ---- what the rows are, by what the level begins with

module _ (d : Dictionary) (level : Level) (t : List Row) (b : Bool) where
  at_end : AreRows d level t b → level.bytes ≡ [] → (t ≡ []) × (b ≡ false)
  at_end (end none is_t is_b) empty = (is_t, is_b)
  at_end (bad_length some none is_t is_b) empty = absurd (omega (arith, some, ap length empty))
  at_end (leaf v rest more begins no_group below is_t) empty = absurd (omega (arith, begins_some v level.bytes rest begins, ap length empty))
  at_end (group v rest members more begins grouped inner below is_t) empty = absurd (omega (arith, begins_some v level.bytes rest begins, ap length empty))
  at_end (bad_group v rest members begins grouped inner is_t is_b) empty = absurd (omega (arith, begins_some v level.bytes rest begins, ap length empty))

  at_bad_length : AreRows d level t b → 0 < length level.bytes → BeginsWithNone level.bytes → (t ≡ of_bad_length level.place ∷ []) × (b ≡ true)
  at_bad_length (end none is_t is_b) some no_avp = absurd (omega (arith, some, ap length none))
  at_bad_length (bad_length some' none is_t is_b) some no_avp = (is_t, is_b)
  at_bad_length (leaf v rest more begins no_group below is_t) some no_avp = absurd (no_avp v rest begins)
  at_bad_length (group v rest members more begins grouped inner below is_t) some no_avp = absurd (no_avp v rest begins)
  at_bad_length (bad_group v rest members begins grouped inner is_t is_b) some no_avp = absurd (no_avp v rest begins)

  -- the row of an AVP, and the rows of what follows it
  abbrev AvpThen : PlainAvp → List ℕ → Type 0
  AvpThen v rest = (more : List Row) × AreRows d (after level v rest) more b × (t ≡ row_of d level v ∷ more)

  at_leaf : (v : PlainAvp) (rest : List ℕ) → AreRows d level t b → BeginsWith v level.bytes rest → is_group (known_avp d v) ≡ false → AvpThen v rest
  at_leaf v rest (end none is_t is_b) begins no_group = absurd (omega (arith, begins_some v level.bytes rest begins, ap length none))
  at_leaf v rest (bad_length some none is_t is_b) begins no_group = absurd (none v rest begins)
  at_leaf v rest (leaf w left more begins' no_group' below is_t) begins no_group =
      let f = one_front level.bytes v w rest left begins begins' in
      (more, rw (f.0, f.1) below, rw f.0 is_t)
  at_leaf v rest (group w left members more begins' grouped inner below is_t) begins no_group =
      absurd (both_ways (is_group (known_avp d v)) no_group (rw (one_front level.bytes v w rest left begins begins').0 grouped))
  at_leaf v rest (bad_group w left members begins' grouped inner is_t is_b) begins no_group =
      absurd (both_ways (is_group (known_avp d v)) no_group (rw (one_front level.bytes v w rest left begins begins').0 grouped))

  -- the row of a group, the rows of its members, and those of what follows it, unless the members end at a bad length
  abbrev GroupThen : PlainAvp → List ℕ → Type 0
  GroupThen v rest = ((members : List Row) × (more : List Row) × AreRows d (inside level v) members false × AreRows d (after level v rest) more b
      × (t ≡ row_of d level v ∷ (members ++ more)))
      ⊎ ((members : List Row) × AreRows d (inside level v) members true × (t ≡ row_of d level v ∷ members) × (b ≡ true))

  at_group : (v : PlainAvp) (rest : List ℕ) → AreRows d level t b → BeginsWith v level.bytes rest → is_group (known_avp d v) ≡ true → GroupThen v rest
  at_group v rest (end none is_t is_b) begins grouped = absurd (omega (arith, begins_some v level.bytes rest begins, ap length none))
  at_group v rest (bad_length some none is_t is_b) begins grouped = absurd (none v rest begins)
  at_group v rest (leaf w left more begins' no_group below is_t) begins grouped =
      absurd (both_ways (is_group (known_avp d v)) (rw (one_front level.bytes v w rest left begins begins').0 no_group) grouped)
  at_group v rest (group w left members more begins' grouped' inner below is_t) begins grouped =
      let f = one_front level.bytes v w rest left begins begins' in
      inl (members, more, rw f.0 inner, rw (f.0, f.1) below, rw f.0 is_t)
  at_group v rest (bad_group w left members begins' grouped' inner is_t is_b) begins grouped =
      let f = one_front level.bytes v w rest left begins begins' in
      inr (members, rw f.0 inner, rw f.0 is_t, is_b)

pub one_walk : (d : Dictionary) (level : Level) (t u : List Row) (b c : Bool) → AreRows d level t b → AreRows d level u c → (t ≡ u) × (b ≡ c)
one_walk d level t u b c (end none is_t is_b) second = let r = at_end d level u c second none in (is_t ∙ sym r.0, is_b ∙ sym r.1)
one_walk d level t u b c (bad_length some none is_t is_b) second = let r = at_bad_length d level u c second some none in (is_t ∙ sym r.0, is_b ∙ sym r.1)
one_walk d level t u b c (leaf v rest more begins no_group below is_t) second =
    let (more', below', is_u) = at_leaf d level u c v rest second begins no_group in
    let r = one_walk d (after level v rest) more more' b c below below' in
    (is_t ∙ ap (λ (f : List Row). row_of d level v ∷ f) r.0 ∙ sym is_u, r.1)
one_walk d level t u b c (group v rest members more begins grouped inner below is_t) second =
    elim (at_group d level u c v rest second begins grouped) [
      | inl (members', more', inner', below', is_u) ↦
          let m = one_walk d (inside level v) members members' false false inner inner' in
          let r = one_walk d (after level v rest) more more' b c below below' in
          (is_t ∙ rw (m.0, r.0) refl ∙ sym is_u, r.1)
      | inr (members', inner', is_u, is_c) ↦ absurd (false≢true (one_walk d (inside level v) members members' false true inner inner').1)
    ]
one_walk d level t u b c (bad_group v rest members begins grouped inner is_t is_b) second =
    elim (at_group d level u c v rest second begins grouped) [
      | inl (members', more', inner', below', is_u) ↦ absurd (false≢true (sym (one_walk d (inside level v) members members' true false inner inner').1))
      | inr (members', inner', is_u, is_c) ↦
          let m = one_walk d (inside level v) members members' true true inner inner' in
          (is_t ∙ rw m.0 refl ∙ sym is_u, is_b ∙ sym is_c)
    ]

-- ---- their texts

-- a row is written as one text
abbrev pub WritesOne : {T : Type 0} → (Row → T → Type 0) → Type 0
WritesOne {T} P = (row : Row) (t u : T) → P row t → P row u → t ≡ u

pub one_written : {T : Type 0} (P : Row → T → Type 0) → WritesOne P → (rows : List Row) (ts us : List T) → AreWritten P rows ts → AreWritten P rows us → ts ≡ us
one_written P one [] [] [] all all' = refl
one_written P one [] [] (u ∷ us) all all' = absurd all'
one_written P one [] (t ∷ ts) us all all' = absurd all
one_written P one (row ∷ rows) [] us all all' = absurd all
one_written P one (row ∷ rows) (t ∷ ts) [] all all' = absurd all'
one_written {T} P one (row ∷ rows) (t ∷ ts) (u ∷ us) (first, all) (first', all') =
    ap (λ (x : T). x ∷ ts) (one row t u first first') ∙ ap (λ (xs : List T). u ∷ xs) (one_written P one rows ts us all all')
