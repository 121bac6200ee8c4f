-- AVPs of a level and those of a level that is alike, one after the other.
use Rattle.std.proofs.Common.{◌≡◌, ℕ, ◌+◌, List, [], ◌∷◌, ◌++◌, Some, None, length, map, refl, sym, ap, subst, ◌∙◌, append_assoc, inl, inr}
use Rattle.std.specs.Prelude.{◌⊎◌}
use Rattle.std.proofs.lemmas.List.{length-append}
use Rattle.dia_wire.specs.declared.Key.{Key}
use Rattle.dia_wire.specs.Wire.{PlainAvp, key_of, head_length, Spells, SpellsAll, BeginsWith}
use Rattle.dia_wire.proofs.Spelling.{opened, rounded}
use Rattle.dia_book.specs.Dictionary.{Dictionary, PlainDefinition}
use Rattle.dia_valid.specs.Valid.{group_at}
use Rattle.dia_check.proofs.Uniqueness.{one_front}
use Rattle.dia_mask.proofs.Alike.{AreAlike, SaysAlike, with_data, no_avps, leaves, groups}

-- the data of an AVP and what stands in their place
abbrev pub AreDataAlike : Dictionary → PlainAvp → List ℕ → Type 0
AreDataAlike d v bytes = ((group_at d v ≡ None) × SaysAlike d v bytes) ⊎ ((g : PlainDefinition) × (group_at d v ≡ Some g) × AreAlike d v.bytes bytes)

pub record FrontToo (d : Dictionary) (v : PlainAvp) (rest other : List ℕ) : Type 0 where
  pub bytes : List ℕ
  pub more : List ℕ
  pub here : BeginsWith (with_data v bytes) other more
  pub size : length v.bytes ≡ length bytes
  pub alike : AreDataAlike d v bytes
  pub next : AreAlike d rest more

pub front_too : (d : Dictionary) (v : PlainAvp) (level rest other : List ℕ) → AreAlike d level other → BeginsWith v level rest → FrontToo d v rest other
front_too d v level rest other (no_avps size none none') begins = absurd (none v rest begins)
front_too d v level rest other (leaves w bytes next more here there size is_leaf says after) begins =
    let one = one_front level w v next rest here begins in
    subst (λ (r : List ℕ). FrontToo d v r other) one.1 (subst (λ (x : PlainAvp). FrontToo d x next other) one.0
    (record { bytes = bytes; more = more; here = there; size = size; alike = inl (is_leaf, says); next = after }))
front_too d v level rest other (groups w bytes next more g here there size is_group inner after) begins =
    let one = one_front level w v next rest here begins in
    subst (λ (r : List ℕ). FrontToo d v r other) one.1 (subst (λ (x : PlainAvp). FrontToo d x next other) one.0
    (record { bytes = bytes; more = more; here = there; size = size; alike = inr (g, is_group, inner); next = after }))

-- AVPs of the other level, and what follows them there
pub record SpelledToo (d : Dictionary) (earlier : List PlainAvp) (front rest other : List ℕ) : Type 0 where
  pub avps : List PlainAvp
  pub front_too : List ℕ
  pub rest_too : List ℕ
  pub spelled : SpellsAll avps front_too
  pub parts : other ≡ front_too ++ rest_too
  pub size : length front_too ≡ length front
  pub keys : map key_of avps ≡ map key_of earlier
  pub alike : AreAlike d rest rest_too

spelled_avp : (d : Dictionary) (v : PlainAvp) (vs : List PlainAvp) (first after front rest level other : List ℕ) → Spells v first → front ≡ first ++ after → level ≡ front ++ rest
    → ((more : List ℕ) → AreAlike d (after ++ rest) more → SpelledToo d vs after rest more) → AreAlike d level other → SpelledToo d (v ∷ vs) front rest other
spelled_avp d v vs first after front rest level other spells parts is others alike =
    let f = front_too d v level (after ++ rest) other alike (first, spells, is ∙ ap (λ (t : List ℕ). t ++ rest) parts ∙ append_assoc first after rest) in
    let ih = others f.more f.next in
    let (first', spells', parts') = f.here in
    let sizes : length first' ≡ length first = (opened (with_data v f.bytes) first' [] spells').front_length ∙ ap (λ (n : ℕ). rounded (head_length v.vendor + n)) (sym f.size)
    ∙ sym (opened v first [] spells).front_length in
    record {
      avps = with_data v f.bytes ∷ ih.avps;
      front_too = first' ++ ih.front_too;
      rest_too = ih.rest_too;
      spelled = (first', ih.front_too, spells', refl, ih.spelled);
      parts = parts' ∙ ap (λ (t : List ℕ). first' ++ t) ih.parts ∙ sym (append_assoc first' ih.front_too ih.rest_too);
      size = length-append first' ih.front_too ∙ ap (λ (n : ℕ). n + length ih.front_too) sizes ∙ ap (λ (n : ℕ). length first + n) ih.size ∙ sym (length-append first after) ∙ ap length (sym parts);
      keys = ap (λ (ks : List Key). key_of v ∷ ks) ih.keys;
      alike = ih.alike;
    }

pub spelled_too : (d : Dictionary) (earlier : List PlainAvp) (front rest level other : List ℕ) → AreAlike d level other → SpellsAll earlier front → level ≡ front ++ rest
    → SpelledToo d earlier front rest other
spelled_too d [] front rest level other alike spelled is = record {
  avps = [];
  front_too = [];
  rest_too = other;
  spelled = refl;
  parts = refl;
  size = ap length (sym spelled);
  keys = refl;
  alike = subst (λ (t : List ℕ). AreAlike d t other) (is ∙ ap (λ (t : List ℕ). t ++ rest) spelled) alike;
}
spelled_too d (v ∷ vs) front rest level other alike (first, after, spells, parts, others) is =
    spelled_avp d v vs first after front rest level other spells parts is (λ more next. spelled_too d vs after rest (after ++ rest) more next others refl) alike
