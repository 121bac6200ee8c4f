-- Rows of parts, over all values that they can have: one that is read from a text with a value, and one that stops in it.
use Rattle.std.proofs.Common.{◌≡◌, inl, inr, ℕ, ◌≤◌, List, [], ◌++◌, length, refl, sym, ap, subst, ◌∙◌, append_assoc}
use Rattle.std.proofs.Common.{arith}
use Rattle.std.proofs.lemmas.List.{length-append}
use Rattle.dia_accepted.specs.Lines.{Form, Part, one, ◌then◌}

-- the rest is the end of the text
abbrev pub Ends : List ℕ → List ℕ → Type 0
Ends text rest = (before : List ℕ) × (text ≡ before ++ rest)

pub whole : (text : List ℕ) → Ends text text
whole text = ([], refl)

pub ends_on : (text mid rest : List ℕ) → Ends text mid → Ends mid rest → Ends text rest
ends_on text mid rest a b = (a.0 ++ b.0, a.1 ∙ ap (λ (xs : List ℕ). a.0 ++ xs) b.1 ∙ sym (append_assoc a.0 b.0 rest))

pub ends_length : (text rest : List ℕ) → Ends text rest → length rest ≤ length text
ends_length text rest e = let l = length-append e.0 rest in let same = ap length e.1 in omega (arith, l, same)

-- the form has this value in the text, and no other, and this follows
pub record Reads {V : Type 0} (f : V → Form) (text : List ℕ) (v : V) (rest : List ℕ) : Type 0 where
  pub derives : (f v).derives text rest
  pub only : (w : V) (r : List ℕ) → (f w).derives text r → (w ≡ v) × (r ≡ rest)
  pub reach : (w : V) (r : List ℕ) → (f w).reaches text r → length rest ≤ length r
  pub ends : Ends text rest

-- it has no value in the text, and goes on up to this rest with some value, and no further with any
pub record Stops {V : Type 0} (f : V → Form) (text rest : List ℕ) : Type 0 where
  pub none : (w : V) (r : List ℕ) → (f w).derives text r → ⊥
  pub value : V
  pub reached : (f value).reaches text rest
  pub furthest : (w : V) (r : List ℕ) → (f w).reaches text r → length rest ≤ length r
  pub ends : Ends text rest

-- ---- one part

module _ {V : Type 0} (p : V → Part) (text : List ℕ) where
  pub part_reads : (v : V) (rest : List ℕ) → p v text rest → ((w : V) (r : List ℕ) → p w text r → (w ≡ v) × (r ≡ rest)) → Ends text rest → Reads (λ w. one (p w)) text v rest
  part_reads v rest here others ends = record {
    derives = here;
    only = others;
    reach = λ w r reached. elim reached [
      | inl same ↦ (let l = ends_length text rest ends in let e = ap length same in omega (arith, l, e))
      | inr other ↦ (let e = ap length ((others w r other).1) in omega (arith, e))
    ];
    ends = ends;
  }

  pub part_stops : (v : V) → ((w : V) (r : List ℕ) → p w text r → ⊥) → Stops (λ w. one (p w)) text text
  part_stops v others = record {
    none = others;
    value = v;
    reached = inl refl;
    furthest = λ w r reached. elim reached [ inl same ↦ (let e = ap length same in omega (arith, e)) | inr other ↦ absurd (others w r other) ];
    ends = whole text;
  }

-- ---- one after the other

abbrev pub Both : {V W : Type 0} → (V → Form) → (W → Form) → V × W → Form
Both f g p = f p.0 then g p.1

module _ {V W : Type 0} (f : V → Form) (g : W → Form) (text : List ℕ) where
  pub reads_then : (v : V) (mid : List ℕ) (w : W) (rest : List ℕ) → Reads f text v mid → Reads g mid w rest → Reads (Both f g) text (v, w) rest
  reads_then v mid w rest first second = record {
    derives = (mid, first.derives, second.derives);
    only = λ p r d.
        let a = first.only p.0 d.0 d.1 in
        let b = second.only p.1 r (subst (λ (m : List ℕ). (g p.1).derives m r) a.1 d.2) in
        ((λ i. (a.0 i, b.0 i)), b.1);
    reach = λ p r reached. elim reached [
      | inl early ↦ (let l = first.reach p.0 r early in let e = ends_length mid rest second.ends in omega (arith, l, e))
      | inr late ↦ second.reach p.1 r (subst (λ (m : List ℕ). (g p.1).reaches m r) (first.only p.0 late.0 late.1).1 late.2)
    ];
    ends = ends_on text mid rest first.ends second.ends;
  }

  -- the first stops
  pub stops_then : (w : W) (rest : List ℕ) → Stops f text rest → Stops (Both f g) text rest
  stops_then w rest first = record {
    none = λ p r d. first.none p.0 d.0 d.1;
    value = (first.value, w);
    reached = inl first.reached;
    furthest = λ p r reached. elim reached [ inl early ↦ first.furthest p.0 r early | inr late ↦ absurd (first.none p.0 late.0 late.1) ];
    ends = first.ends;
  }

  -- the second does
  pub then_stops : (v : V) (mid rest : List ℕ) → Reads f text v mid → Stops g mid rest → Stops (Both f g) text rest
  then_stops v mid rest first second = record {
    none = λ p r d. second.none p.1 r (subst (λ (m : List ℕ). (g p.1).derives m r) (first.only p.0 d.0 d.1).1 d.2);
    value = (v, second.value);
    reached = inr (mid, first.derives, second.reached);
    furthest = λ p r reached. elim reached [
      | inl early ↦ (let l = first.reach p.0 r early in let e = ends_length mid rest second.ends in omega (arith, l, e))
      | inr late ↦ second.furthest p.1 r (subst (λ (m : List ℕ). (g p.1).reaches m r) (first.only p.0 late.0 late.1).1 late.2)
    ];
    ends = ends_on text mid rest first.ends second.ends;
  }
