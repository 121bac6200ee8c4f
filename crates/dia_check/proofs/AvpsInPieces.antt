-- The AVPs that lie whole in a piece of a body.
use Rattle.std.proofs.Common.{◌≡◌, ℕ, ◌+◌, ◌-◌, ◌*◌, ◌<◌, ◌≤◌, List, [], ◌∷◌, ◌++◌, length, take, drop, map, Option, Some, None, refl, sym, ap, subst, ◌∙◌, arith}
use Rattle.std.proofs.Math.Logic.{∥∥₁_map}
use Rattle.std.proofs.Math.Nat.{min-le_left, min-le_right, min-eq_left}
use Rattle.std.specs.Prelude.{min, slice_get}
use Rattle.std.proofs.lemmas.List.{append_assoc, take_all, take-append-drop, length-append, length-take, length-drop}
use Rattle.dia_wire.specs.Wire.{PlainAvp, key_of, head_length, avp_length, padded_length, BeginsWith}
use Rattle.dia_wire.proofs.Spelling.{opened, rounded-le}
use Rattle.dia_book.specs.Dictionary.{Dictionary, IsDictionary, PlainDefinition, definitions}
use Rattle.dia_terms.specs.declared.Unknown.{Unknown}
use Rattle.dia_terms.specs.declared.Levels.{Levels}
use Rattle.dia_check.specs.declared.fault.Refusal.{Refusal}
use Rattle.dia_check.specs.declared.fault.Refusal.TheVariants as refusal
use Rattle.dia_check.specs.declared.open_levels.OpenLevel.{OpenLevel}
use Rattle.dia_check.specs.declared.open_levels.OpenLevels.{OpenLevels}
use Rattle.dia_check.specs.Levels.{between}
use Rattle.dia_check.specs.Faults.{HasGoodHeader}
use Rattle.dia_check.specs.OpenLevels.{SoFar, AreOpen, AreOpenUnder, and_key, begun}
use Rattle.dia_check.specs.Admission.{IsFineAvp}
use Rattle.dia_check.specs.Walks.{inside, whole, IsFoundIn}
use Rattle.dia_check.specs.UnderWay.{so_far, IsUnderWay}
use Rattle.dia_check.specs.Basis.{PlainBasis}
use Rattle.dia_check.specs.Reading.{AreSound, BeginsLevel, IsStop, LiesAt, ReadsOn}
use Rattle.dia_check.proofs.FoundFaultsStand.{length-between, between-split, first_part, lies_inside}
use Rattle.dia_check.proofs.FaultlessLevels.{opens}
use Rattle.dia_check.proofs.KeptLevels.{kept_many}
use Rattle.dia_check.proofs.RestOfLevels.{group_is, is_fine}
use Rattle.dia_check.proofs.UnderWay.{last, deep, left_of, place_of, started}
use Rattle.dia_check.proofs.PartsOfPieces.{lies_later}

pub sound_levels : (b : PlainBasis) (o : OpenLevels) (from at : ℕ) (piece : List ℕ) → ∥ ReadsOn b o from at piece ∥₁ → ∥ AreSound b.dictionary o at ∥₁
sound_levels b o from at piece h = ∥∥₁_map h (λ x. let (bytes, good, few, w, lies) = x in (b.unknown, b.levels, bytes, good, few, w))

-- the rest of a piece is at the place that is reached
lies_ahead : (bytes piece : List ℕ) (from at : ℕ) → from ≤ at → at ≤ from + length piece → LiesAt bytes from piece → LiesAt bytes at (drop (at - from) piece)
lies_ahead bytes piece from at le within lies =
    let here : from + (at - from) ≡ at = omega (arith, le) in
    subst (λ (n : ℕ). LiesAt bytes n (drop (at - from) piece)) here (lies_later bytes piece from (at - from) (omega (arith, le, within)) lies)

-- the piece from a place on, up to its end
pub lies_from : (bytes piece : List ℕ) (from at : ℕ) → from ≤ at → at ≤ from + length piece → LiesAt bytes from piece
    → LiesAt bytes at (take (length piece - (at - from)) (drop (at - from) piece))
lies_from bytes piece from at le within lies =
    let all = take_all (length piece - (at - from)) (drop (at - from) piece) (omega (arith, length-drop (at - from) piece)) in
    subst (LiesAt bytes at) (sym all) (lies_ahead bytes piece from at le within lies)

pub size_from : (piece : List ℕ) (from at : ℕ) → length (take (length piece - (at - from)) (drop (at - from) piece)) ≡ length piece - (at - from)
size_from piece from at = omega (arith, length-drop (at - from) piece, length-take (length piece - (at - from)) (drop (at - from) piece))

-- a part of a piece is that part of the message
piece_part : (bytes piece : List ℕ) (from at until : ℕ) → LiesAt bytes from piece → from ≤ at → at ≤ until → until ≤ from + length piece
    → between piece (at - from) (until - from) ≡ between bytes at until
piece_part bytes piece from at until lies le up within =
    let rest = drop (at - from) piece in
    let size = length-drop (at - from) piece in
    let (is, room) = lies_ahead bytes piece from at le (omega (arith, up, within)) lies in
    let n = until - at in
    let count = length-take n rest in
    let same : (until - from) - (at - from) ≡ n = omega (arith, le, up) in
    ap (λ (k : ℕ). take k rest) same
    ∙ sym (first_part bytes (take n rest) (drop n rest) at until (at + length rest) up (omega (arith, size, le, up, within)) room
    (is ∙ sym (take-append-drop n rest)) (omega (arith, count, size, le, up, within)))

-- the part of a level that lies in a piece
pub up_to : (at end stop until : ℕ) → at ≤ end → at ≤ stop → until ≡ min end stop → (at ≤ until) × (until ≤ end) × (until ≤ stop)
up_to at end stop until in_level in_piece is =
    let l = min-le_left end stop in let r = min-le_right end stop in
    (omega (arith, is, l, r, in_level, in_piece), omega (arith, is, l), omega (arith, is, r))

module _ (d : Dictionary) (sound : IsDictionary d) (u : Unknown) (most : Levels) (bytes : List ℕ) (good : HasGoodHeader d bytes) (o : OpenLevels) (at : ℕ)
    (w : IsUnderWay d u most bytes good o at) (kept : OpenLevel) (same : kept ≡ o.innermost) (from : ℕ) (piece : List ℕ) (lies : LiesAt bytes from piece)
    (until : ℕ) (is : until ≡ min kept.end (from + length piece)) (le : from ≤ at) (reached : at ≤ from + length piece) where
  here : (at ≤ kept.end) × (kept.end ≤ length bytes)
  here = place_of d sound u most bytes good o at w kept same

  bounds : (at ≤ until) × (until ≤ kept.end) × (until ≤ from + length piece)
  bounds = up_to at kept.end (from + length piece) until here.0 reached is

  pub until_last : until ≤ from + length piece
  until_last = bounds.2

  part : between piece (at - from) (until - from) ≡ between bytes at until
  part = piece_part bytes piece from at until lies le bounds.0 bounds.2

  -- where the level goes on after the piece, so does what follows an AVP
  pub begins : (v : PlainAvp) (rest : List ℕ) → BeginsWith v (between piece (at - from) (until - from)) rest → BeginsWith v w.s.bytes (rest ++ between bytes until kept.end)
  begins v rest (front, spells, parts) =
      let more = between bytes until kept.end in (
        front,
        spells,
        sym (left_of d sound u most bytes good o at w kept same) ∙ between-split bytes at until kept.end bounds.0 bounds.1
            ∙ ap (λ (t : List ℕ). t ++ more) (sym part ∙ parts) ∙ append_assoc front rest more,
      )

  -- where it doesn't, the piece holds the rest of the level
  pub all_here : kept.end ≤ from + length piece → between piece (at - from) (until - from) ≡ w.s.bytes
  all_here up =
      let end : until ≡ kept.end = is ∙ min-eq_left up in
      part ∙ ap (between bytes at) end ∙ left_of d sound u most bytes good o at w kept same

  pub nothing_left : kept.end ≤ from + length piece → length (between piece (at - from) (until - from)) ≡ 0 → w.s.bytes ≡ []
  nothing_left up none = by w.s.bytes (ap length (sym (all_here up)) ∙ none)
    where
      by : (xs : List ℕ) → length xs ≡ 0 → xs ≡ []
      by [] e = refl
      by (x ∷ xs) e = absurd (omega (arith, e))

  room : (v : PlainAvp) (rest : List ℕ) → BeginsWith v (between piece (at - from) (until - from)) rest → padded_length v + length rest ≡ until - at
  room v rest (front, spells, parts) =
      let o = opened v front [] spells in
      let all : length (between bytes at until) ≡ length front + length rest = ap length (sym part ∙ parts) ∙ length-append front rest in
      let size = length-between bytes at until bounds.0 (let l = here.1 in let b = bounds.1 in omega (arith, l, b)) in
      omega (arith, all, size, o.front_length)

  head_some : (v : Option ℕ) → 8 ≤ head_length v
  head_some None = omega arith
  head_some (Some x) = omega arith

  pub whole_here : (v : PlainAvp) (rest : List ℕ) → BeginsWith v (between piece (at - from) (until - from)) rest
      → (until - length rest ≡ at + padded_length v) × (at + avp_length v ≤ until) × (at + 8 ≤ until)
  whole_here v rest b =
      let r = room v rest b in let up = bounds.0 in let round = rounded-le (avp_length v) in let some = head_some v.vendor in
      (omega (arith, r, up), omega (arith, r, up, round), omega (arith, r, up, round, some))

  -- memory is taken for a level that begins in the piece
  pub group_begins : (v : PlainAvp) (rest : List ℕ) (n : ℕ) → BeginsWith v (between piece (at - from) (until - from)) rest
      → IsFineAvp d u most (length (map so_far w.rests)) w.s.level.rules (map key_of w.s.earlier) v (Some n)
      → BeginsLevel d most bytes from (from + length piece)
  group_begins v rest n b says =
      let fine = subst (λ (k : ℕ). IsFineAvp d u most k w.s.level.rules (map key_of w.s.earlier) v (Some n)) (deep d sound u most bytes good o at w) says in
      let (g, is_group, number) = group_is d u most w.s v n fine in
      let lies = (last d sound u most bytes good o at w).1.lies in
      let inner = lies_inside d u most bytes good w.s v _ g lies (begins v rest b) is_group (opens d sound u most w.s v g (is_fine d u most w.s v (Some n) fine) is_group) in
      let h = w.here in let some = head_some v.vendor in let within = (whole_here v rest b).1 in let up = bounds.2 in
      record { level = (inside w.s v g).level; is_open = inner.open_level; following = omega (arith, h, some, le); within = omega (arith, h, within, up) }

  -- ---- the loop ends

  many : (next : OpenLevels) (outer : List SoFar) (level : SoFar) → AreOpen (definitions d) next outer level → length next.outer.items ≡ length outer
  many next outer level now = kept_many (definitions d) 0 next.outer.items now.before outer now.are_outer

  pub less_passed : (v : PlainAvp) (rest : List ℕ) (next : OpenLevels) (level : SoFar) → BeginsWith v (between piece (at - from) (until - from)) rest
      → AreOpen (definitions d) next (map so_far w.rests) level
      → 2 * ((from + length piece) - (until - length rest)) + length next.outer.items < 2 * ((from + length piece) - at) + length o.outer.items
  less_passed v rest next level b now =
      let old = many o (map so_far w.rests) (so_far w.s) w.occurs in let new = many next (map so_far w.rests) level now in
      let (to, fits, some) = whole_here v rest b in let up = bounds.2 in let round = rounded-le (avp_length v) in let head = head_some v.vendor in
      omega (arith, old, new, to, fits, some, up, round, head)

  pub less_entered : (v : PlainAvp) (rest : List ℕ) (n : ℕ) (next : OpenLevels) (end to : ℕ) → BeginsWith v (between piece (at - from) (until - from)) rest
      → IsFineAvp d u most (length (map so_far w.rests)) w.s.level.rules (map key_of w.s.earlier) v (Some n)
      → ((g : PlainDefinition) → slice_get (definitions d) n ≡ Some g → AreOpen (definitions d) next (map so_far w.rests ++ and_key (so_far w.s) (key_of v) ∷ []) (begun g.rules end))
      → to ≡ at + head_length v.vendor
      → 2 * ((from + length piece) - to) + length next.outer.items < 2 * ((from + length piece) - at) + length o.outer.items
  less_entered v rest n next end to b says now is_to =
      let fine = subst (λ (k : ℕ). IsFineAvp d u most k w.s.level.rules (map key_of w.s.earlier) v (Some n)) (deep d sound u most bytes good o at w) says in
      let (g, is_group, number) = group_is d u most w.s v n fine in
      let level = and_key (so_far w.s) (key_of v) in
      let old = many o (map so_far w.rests) (so_far w.s) w.occurs in let new = many next (map so_far w.rests ++ level ∷ []) (begun g.rules end) (now g number) in
      let more = length-append (map so_far w.rests) (level ∷ []) in
      let some = (whole_here v rest b).2 in let up = bounds.2 in let head = head_some v.vendor in
      omega (arith, old, new, more, is_to, some, up, head)

  pub less_done : (next : OpenLevels) (others : List SoFar) (level : SoFar) → map so_far w.rests ≡ others ++ level ∷ [] → AreOpen (definitions d) next others level
      → 2 * ((from + length piece) - at) + length next.outer.items < 2 * ((from + length piece) - at) + length o.outer.items
  less_done next others level parts now =
      let old = many o (map so_far w.rests) (so_far w.s) w.occurs ∙ ap length parts in let new = many next others level now in let more = length-append others (level ∷ []) in
      omega (arith, old, new, more)

-- the levels of any message with this header
pub opens_body : (d : Dictionary) (sound : IsDictionary d) (u : Unknown)
    (most : Levels) (bytes : List ℕ) (o : OpenLevels) (def end : ℕ) (good : HasGoodHeader d bytes) → good.c ≡ def → end ≡ length bytes
    → ((definition : PlainDefinition) → slice_get (definitions d) def ≡ Some definition → AreOpenUnder d o [] (begun definition.rules end)) → IsUnderWay d u most bytes good o 20
opens_body d sound u most bytes o def end good is is_end opened = started d sound u most bytes good o
    (subst (λ (n : ℕ). AreOpenUnder d o [] (begun good.command.rules n)) is_end (opened good.command (subst (λ (n : ℕ). slice_get (definitions d) n ≡ Some good.command) is good.is_command)))

-- what stops the reading is found in the body
pub found_at_stop : (d : Dictionary) (u : Unknown) (most : Levels) (bytes : List ℕ) (good : HasGoodHeader d bytes) (Memory : Type 0) (e : Refusal)
    → IsStop d u most bytes good Memory e → IsFoundIn d u most (whole good.command.rules bytes) e
found_at_stop d u most bytes good Memory (refusal.Fault f) h = h
found_at_stop d u most bytes good Memory refusal.NoMemory h = tt
found_at_stop d u most bytes good Memory refusal.Truncated h = h
found_at_stop d u most bytes good Memory refusal.Trailing h = h
found_at_stop d u most bytes good Memory refusal.Spent h = h
