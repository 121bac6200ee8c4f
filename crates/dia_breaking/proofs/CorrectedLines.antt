-- The messages of lines, with their headers fixed.
use Rattle.std.proofs.Common.{◌≡◌, ◌≢◌, ℕ, Bool, true, false, not, List, length, take, Some, sym, subst, ◌∙◌}
use Rattle.std.specs.Prelude.{◌↔◌, IsTrue, slice_get}
use Rattle.std.specs.Int.{IsBitSet}
use Rattle.dia_wire.specs.declared.Header.{Header}
use Rattle.dia_wire.specs.Wire.{PlainAvp, IsHead, IsMessage}
use Rattle.dia_book.specs.Dictionary.{Dictionary, PlainDefinition, definitions, selected}
use Rattle.dia_terms.specs.declared.Unknown.{Unknown}
use Rattle.dia_terms.specs.declared.Levels.TheVariants as levels
use Rattle.dia_terms.specs.declared.Sends.{Sends}
use Rattle.dia_valid.specs.Valid.{PHolds, IsValid, class_of}
use Rattle.dia_breaking.specs.declared.heads.Head.{Head}
use Rattle.dia_breaking.specs.declared.line.Place.{Place}
use Rattle.dia_breaking.specs.declared.line.Place.TheVariants as places
use Rattle.dia_breaking.specs.Confirmed.{IsConfirmed}
use Rattle.dia_breaking.specs.Free.{IsReadBy}
use Rattle.dia_breaking.specs.Headers.{head_in, IsCommandPlace}
use Rattle.dia_breaking.specs.Corrected.{BreaksOnceCorrected, IsCorrectedAt, p_bit}
use Rattle.dia_breaking.specs.Sides.{sides}
use Rattle.dia_breaking.proofs.Confirmed.{valid_of}
use Rattle.dia_breaking.proofs.CorrectedHeaders.{header_is}
use Rattle.dia_breaking.proofs.RecordedHeaders.{allows_head}

module _ (da db : Dictionary) (who : Sends) (u : Unknown) (c : ℕ) (place : Place) where
  pub corrected_at : (app read_as def : ℕ) (is_recorded proxiable : Bool) (x y : PlainDefinition) (own other : Head) (old new : Header) → place ≡ places.Command app read_as is_recorded proxiable
      → slice_get (definitions da) c ≡ Some x → head_in x.head ≡ Some own → selected db own.code own.class read_as ≡ Some def → slice_get (definitions db) def ≡ Some y → head_in y.head ≡ Some other
      → new.app ≡ read_as → new.code ≡ old.code → ((bit : ℕ) → bit ≢ p_bit → IsBitSet new.flags bit ↔ IsBitSet old.flags bit) → new.hop ≡ old.hop → new.e2e ≡ old.e2e
      → selected db new.code (class_of new.flags) new.app ≡ Some def → PHolds other.p new.flags → IsCorrectedAt (sides da db who u) c place old new
  corrected_at app read_as def is_recorded proxiable x y own other old new is at_x head_x select at_y head_y to code flags hop e2e selects holds = record {
    command = x;
    other = y;
    at = subst (λ (p : Place). IsCommandPlace new.app p) (sym is) (sym to);
    read = subst (λ (p : Place). IsReadBy da db c p x y) (sym is) (at_x, (own, def, head_x, select, at_y));
    mends = record { code = code; flags = flags; hop = hop; e2e = e2e; selected = (def, selects, at_y); allowed = allows_head y.head other new.flags head_y holds };
  }

  module _ (bytes : List ℕ) (found new : Header) (confirmed : IsConfirmed (sides da db who u) bytes c) (is_head : IsHead found (length bytes) (take 20 bytes))
      (corrected : IsCorrectedAt (sides da db who u) c place found new) where
    -- the header is as B's definition takes it
    pub breaks_kept : new ≡ found → BreaksOnceCorrected (sides da db who u) c place bytes
    breaks_kept same =
        let v = valid_of da db who u bytes c confirmed in
        let own = header_is v.0.header found v.0.avps bytes v.0.message is_head in
        record {
          sent = v.0;
          header = new;
          corrected = bytes;
          is_corrected = subst (λ (old : Header). IsCorrectedAt (sides da db who u) c place old new) own corrected;
          message = subst (λ (h : Header). IsMessage h v.0.avps bytes) (sym (same ∙ own)) v.0.message;
          breaks = v.1;
        }

    -- or it is fixed
    pub breaks_new : (message : List ℕ) (accepted : Bool) → ((old : Header) (avps : List PlainAvp) → IsMessage old avps bytes → new.code ≡ old.code → new.hop ≡ old.hop → new.e2e ≡ old.e2e
        → IsMessage new avps message)
        → (IsTrue accepted ↔ IsValid db u levels.Any message) → IsTrue (not accepted) → BreaksOnceCorrected (sides da db who u) c place bytes
    breaks_new message true spells iff refused = absurd cc
    breaks_new message false spells iff refused =
        let v = valid_of da db who u bytes c confirmed in
        let own = header_is v.0.header found v.0.avps bytes v.0.message is_head in
        let here = subst (λ (old : Header). IsCorrectedAt (sides da db who u) c place old new) own corrected in
        record {
          sent = v.0;
          header = new;
          corrected = message;
          is_corrected = here;
          message = spells v.0.header v.0.avps v.0.message here.mends.code here.mends.hop here.mends.e2e;
          breaks = λ valid. absurd (let e : false ≡ true = iff.1 valid in cc);
        }
