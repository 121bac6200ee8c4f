-- Verdicts on lines may be reported in other words.
use Rattle.std.proofs.Common.{◌≡◌, ℕ, List, [], ◌∷◌, ◌++◌, Option, refl, sym, ap, subst, ◌∙◌, inl, inr}
use Rattle.std.specs.Prelude.{map}
use Rattle.std.specs.List.{flat_map}
use Rattle.std.specs.Io.KnownBytes.{Appends}
use Rattle.std.proofs.lemmas.List.{map-append}
use Rattle.std.proofs.lemmas.List.Concat.{flat_map-cons}
use Rattle.dia_io.specs.declared.Input.{Input}
use Rattle.dia_io.specs.Writing.{AppendsFront}
use Rattle.dia_streams.specs.Lines.{AreAnswered, none, one_more, IsAnswered}
use Rattle.dia_streams.specs.FeedToSink.{AllAnswered, FrontAnswered, LinesAnswered}

-- texts of verdicts, one after the other
pub same_text : {V A : Type 0} (g : V → A) (recorded : V → List ℕ) (other : A → List ℕ) → ((verdict : V) → recorded verdict ≡ other (g verdict)) → (verdicts : List V)
    → flat_map recorded verdicts ≡ flat_map other (map g verdicts)
same_text g recorded other same [] = refl
same_text g recorded other same (v ∷ vs) =
    flat_map-cons recorded v vs ∙ ap (λ (t : List ℕ). t ++ flat_map recorded vs) (same v) ∙ ap (λ (t : List ℕ). other (g v) ++ t) (same_text g recorded other same vs)
    ∙ sym (flat_map-cons other (g v) (map g vs))

-- the same text, written otherwise
pub AllAnswered-text : {V W : Type 0} (P : Input → V → Type 0) (text other : List V → List ℕ) (saw : W → List V → Type 0) (fed_old fed put_old put : Option (List ℕ)) (w x : W)
    → ((verdicts : List V) → text verdicts ≡ other verdicts) → AllAnswered P text saw fed_old fed put_old put w x → AllAnswered P other saw fed_old fed put_old put w x
AllAnswered-text P text other saw fed_old fed put_old put w x same h = record {
  bytes = h.bytes;
  verdicts = h.verdicts;
  consumed = h.consumed;
  answered = h.answered;
  is_put = subst (Appends put_old put) (same h.verdicts) h.is_put;
  seen = h.seen;
}

module _ {V A : Type 0} (P : Input → V → Type 0) (Q : Input → A → Type 0) (g : V → A) (f : (line : Input) (verdict : V) → P line verdict → Q line (g verdict)) where
  pub AreAnswered-map : (lines : List ℕ) (verdicts : List V) → AreAnswered P lines verdicts → AreAnswered Q lines (map g verdicts)
  AreAnswered-map _ _ none = none
  AreAnswered-map _ _ (one_more before verdicts_before bytes input verdict h line is says lines verdicts) =
      one_more before (map g verdicts_before) bytes input (g verdict) (AreAnswered-map before verdicts_before h) line is (f input verdict says) lines
      (ap (λ (vs : List V). map g vs) verdicts ∙ map-append g verdicts_before (verdict ∷ []))

  pub IsAnswered-map : (bytes : List ℕ) (verdicts : List V) → IsAnswered P bytes verdicts → IsAnswered Q bytes (map g verdicts)
  IsAnswered-map bytes verdicts (inl h) = inl (AreAnswered-map bytes verdicts h)
  IsAnswered-map bytes verdicts (inr h) = inr (h.0, AreAnswered-map _ verdicts h.1)

  module _ (text : List V → List ℕ) (other : List A → List ℕ) (same : (verdicts : List V) → text verdicts ≡ other (map g verdicts)) where
    pub LinesAnswered-map : (fed_old fed put_old put : Option (List ℕ)) → LinesAnswered P text fed_old fed put_old put → LinesAnswered Q other fed_old fed put_old put
    LinesAnswered-map fed_old fed put_old put h = record {
      lines = h.lines;
      rest = h.rest;
      verdicts = map g h.verdicts;
      consumed = h.consumed;
      answered = AreAnswered-map h.lines h.verdicts h.answered;
      is_put = subst (Appends put_old put) (same h.verdicts) h.is_put;
    }

    pub FrontAnswered-map : (fed_old fed put_old put : Option (List ℕ)) → FrontAnswered P text fed_old fed put_old put → FrontAnswered Q other fed_old fed put_old put
    FrontAnswered-map fed_old fed put_old put h = record {
      front = h.front;
      rest = h.rest;
      verdicts = map g h.verdicts;
      consumed = h.consumed;
      answered = elim h.answered [
        | inl a ↦ inl (AreAnswered-map h.front h.verdicts a)
        | inr a ↦ inr (a.0, a.1, IsAnswered-map h.front h.verdicts a.2)
      ];
      is_put = subst (AppendsFront put_old put) (same h.verdicts) h.is_put;
    }
