-- Verdicts on messages may be reported in other words.
use Rattle.std.proofs.Common.{◌≡◌, ℕ, ◌∷◌, ◌++◌, List, [], Option, Some, None, refl, sym, ap, subst, ◌∙◌, inl, inr}
use Rattle.std.specs.Prelude.{map}
use Rattle.std.specs.List.{flat_map}
use Rattle.std.specs.Io.KnownBytes.{Appends}
use Rattle.std.proofs.lemmas.List.{map-append}
use Rattle.std.proofs.lemmas.List.Concat.{flat_map-cons}
use Rattle.dia_io.specs.Writing.{AppendsFront}
use Rattle.dia_streams.specs.Streams.{AreRecorded, none, message, IsEndRecorded, nothing, part, endless, no_digits, IsStreamRecorded, IsFrontRecorded, WholeRecorded, SomeRecorded}

module _ {V A : Type 0} (P : Option (List ℕ) → V → Type 0) (Q : Option (List ℕ) → A → Type 0) (g : V → A)
    (f : (bytes : Option (List ℕ)) (verdict : V) → P bytes verdict → Q bytes (g verdict)) where
  -- the same of a verdict with its place
  abbrev pub at_place : ℕ × V → ℕ × A
  at_place v = (v.0, g v.1)

  AreRecorded-map : (at : ℕ) (bytes : List ℕ) (verdicts : List (ℕ × V)) → AreRecorded P at bytes verdicts → AreRecorded Q at bytes (map at_place verdicts)
  AreRecorded-map at _ _ none = none
  AreRecorded-map at _ _ (message first rest verdict others is says more bytes are) =
      message first rest (g verdict) (map at_place others) is (f (Some first) verdict says) (AreRecorded-map _ rest others more) bytes (ap (λ (vs : List (ℕ × V)). map at_place vs) are)

  IsEndRecorded-map : (at : ℕ) (bytes left : List ℕ) (verdicts : List (ℕ × V)) → IsEndRecorded P at bytes left verdicts → IsEndRecorded Q at bytes left (map at_place verdicts)
  IsEndRecorded-map at bytes left verdicts (nothing none_read none_left are) = nothing none_read none_left (ap (λ (vs : List (ℕ × V)). map at_place vs) are)
  IsEndRecorded-map at bytes left verdicts (part verdict some is_part none_left says are) =
      part (g verdict) some is_part none_left (f (Some bytes) verdict says) (ap (λ (vs : List (ℕ × V)). map at_place vs) are)
  IsEndRecorded-map at bytes left verdicts (endless verdict is_endless says are) =
      endless (g verdict) is_endless (f _ verdict says) (ap (λ (vs : List (ℕ × V)). map at_place vs) are)
  IsEndRecorded-map at bytes left verdicts (no_digits verdict is_part some says are) =
      no_digits (g verdict) is_part some (f None verdict says) (ap (λ (vs : List (ℕ × V)). map at_place vs) are)

  pub IsStreamRecorded-map : (stream : List ℕ) (verdicts : List (ℕ × V)) → IsStreamRecorded P stream verdicts → IsStreamRecorded Q stream (map at_place verdicts)
  IsStreamRecorded-map stream verdicts h = record {
    bytes = h.bytes;
    left = h.left;
    whole = h.whole;
    rest = h.rest;
    earlier = map at_place h.earlier;
    last = map at_place h.last;
    spells = h.spells;
    parts = h.parts;
    recorded = AreRecorded-map 0 h.whole h.earlier h.recorded;
    end_recorded = IsEndRecorded-map _ h.rest h.left h.last h.end_recorded;
    are = ap (λ (vs : List (ℕ × V)). map at_place vs) h.are ∙ map-append at_place h.earlier h.last;
  }

  IsFrontRecorded-map : (stream : List ℕ) (verdicts : List (ℕ × V)) → IsFrontRecorded P stream verdicts → IsFrontRecorded Q stream (map at_place verdicts)
  IsFrontRecorded-map stream verdicts h = record {
    digits = h.digits;
    left = h.left;
    whole = h.whole;
    rest = h.rest;
    parts = h.parts;
    spelled = h.spelled;
    recorded = AreRecorded-map 0 h.whole verdicts h.recorded;
  }

  module _ (text : ℕ × V → List ℕ) (other : ℕ × A → List ℕ) (same : (v : ℕ × V) → text v ≡ other (at_place v)) where
    pub same_lines : (verdicts : List (ℕ × V)) → flat_map text verdicts ≡ flat_map other (map at_place verdicts)
    same_lines [] = refl
    same_lines (v ∷ vs) = flat_map-cons text v vs ∙ ap (λ (t : List ℕ). t ++ flat_map text vs) (same v) ∙ ap (λ (t : List ℕ). other (at_place v) ++ t) (same_lines vs)
        ∙ sym (flat_map-cons other (at_place v) (map at_place vs))

    pub WholeRecorded-map : (fed_old fed put_old put : Option (List ℕ)) → WholeRecorded P text fed_old fed put_old put → WholeRecorded Q other fed_old fed put_old put
    WholeRecorded-map fed_old fed put_old put h = record {
      read = h.read;
      verdicts = map at_place h.verdicts;
      consumed = h.consumed;
      recorded = IsFrontRecorded-map h.read h.verdicts h.recorded;
      is_put = subst (Appends put_old put) (same_lines h.verdicts) h.is_put;
    }

    pub SomeRecorded-map : (fed_old fed put_old put : Option (List ℕ)) → SomeRecorded P text fed_old fed put_old put → SomeRecorded Q other fed_old fed put_old put
    SomeRecorded-map fed_old fed put_old put h = record {
      read = h.read;
      verdicts = map at_place h.verdicts;
      consumed = h.consumed;
      recorded = elim h.recorded [
        | inl front ↦ inl (IsFrontRecorded-map h.read h.verdicts front)
        | inr all ↦ inr (λ rest gives. IsStreamRecorded-map (h.read ++ rest) h.verdicts (all rest gives))
      ];
      is_put = subst (AppendsFront put_old put) (same_lines h.verdicts) h.is_put;
    }
