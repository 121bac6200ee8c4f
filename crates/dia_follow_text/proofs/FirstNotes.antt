-- The first of the requests of both ends, by line.
use Rattle.std.proofs.Common.{◌≡◌, ◌<◌, ℕ, Bool, true, false, List, [], ◌∷◌, ◌++◌, Option, None, Some, map, length, refl, sym, ap, subst, ◌∙◌, append_assoc, arith}
use Rattle.std.specs.List.{flat_map}
use Rattle.std.proofs.lemmas.List.{append-nil, flat_map_more}
use Rattle.std.specs.Prelude.{if◌then◌else◌, nat_lt, slice_get, unwrap_or}
use Rattle.dia_follow.specs.declared.End.TheVariants.{Initiator, Responder}
use Rattle.dia_follow.specs.declared.Request.{Request}
use Rattle.dia_follow_text.specs.Notes.{IsNext, Note, before, from, in_order, of_responder, ours_after, theirs_after}

the_first : (x a : Request) → Some x ≡ Some a → x ≡ a
the_first x a is = ap (λ (o : Option Request). unwrap_or o x) is

no_none : (a : Request) → None ≡ Some a → ⊥
no_none a is = let z : None ≡ Some a = is in cc

no_some : (a : Request) → Some a ≡ None → ⊥
no_some a is = let z : Some a ≡ None = is in cc

-- what is written of both lists, by whether the responder's first request is before the initiator's
abbrev by : Bool → Request → Request → List Request → List Request → List Note
by earlier x y xs ys =
    map of_responder (if earlier then y ∷ before x.line ys else []) ++ (Initiator, x) ∷ in_order xs (if earlier then from x.line ys else y ∷ ys)

pub theirs_next : (ours theirs : List Request) (a b : Request) → slice_get ours 0 ≡ Some a → slice_get theirs 0 ≡ Some b → nat_lt b.line a.line ≡ true
    → IsNext ours theirs (Some (Responder, b))
theirs_next (x ∷ xs) (y ∷ ys) a b is_a is_b less =
    let at : nat_lt y.line x.line ≡ true = subst (λ (q : Request). nat_lt y.line q.line ≡ true) (sym (the_first x a is_a))
    (subst (λ (q : Request). nat_lt q.line a.line ≡ true) (sym (the_first y b is_b)) less) in
    ap (λ (t : Bool). by t x y xs ys) at ∙ ap (λ (q : Request). (Responder, q) ∷ in_order (x ∷ xs) ys) (the_first y b is_b)
theirs_next [] theirs a b is_a is_b less = absurd (no_none a is_a)
theirs_next (x ∷ xs) [] a b is_a is_b less = absurd (no_none b is_b)

pub ours_next : (ours theirs : List Request) (a b : Request) → slice_get ours 0 ≡ Some a → slice_get theirs 0 ≡ Some b → nat_lt b.line a.line ≡ false
    → IsNext ours theirs (Some (Initiator, a))
ours_next (x ∷ xs) (y ∷ ys) a b is_a is_b less =
    let at : nat_lt y.line x.line ≡ false = subst (λ (q : Request). nat_lt y.line q.line ≡ false) (sym (the_first x a is_a))
    (subst (λ (q : Request). nat_lt q.line a.line ≡ false) (sym (the_first y b is_b)) less) in
    ap (λ (t : Bool). by t x y xs ys) at ∙ ap (λ (q : Request). (Initiator, q) ∷ in_order xs (y ∷ ys)) (the_first x a is_a)
ours_next [] theirs a b is_a is_b less = absurd (no_none a is_a)
ours_next (x ∷ xs) [] a b is_a is_b less = absurd (no_none b is_b)

pub only_ours : (ours theirs : List Request) (a : Request) → slice_get ours 0 ≡ Some a → slice_get theirs 0 ≡ None → IsNext ours theirs (Some (Initiator, a))
only_ours (x ∷ xs) [] a is_a none = ap (λ (q : Request). (Initiator, q) ∷ in_order xs []) (the_first x a is_a)
only_ours [] theirs a is_a none = absurd (no_none a is_a)
only_ours (x ∷ xs) (y ∷ ys) a is_a none = absurd (no_some y none)

pub only_theirs : (ours theirs : List Request) (b : Request) → slice_get ours 0 ≡ None → slice_get theirs 0 ≡ Some b → IsNext ours theirs (Some (Responder, b))
only_theirs [] (y ∷ ys) b none is_b = ap (λ (q : Request). (Responder, q) ∷ in_order [] ys) (the_first y b is_b)
only_theirs (x ∷ xs) theirs b none is_b = absurd (no_some x none)
only_theirs [] [] b none is_b = absurd (no_none b is_b)

pub no_next : (ours theirs : List Request) → slice_get ours 0 ≡ None → slice_get theirs 0 ≡ None → IsNext ours theirs None
no_next [] [] none_ours none_theirs = refl
no_next (x ∷ xs) theirs none_ours none_theirs = absurd (no_some x none_ours)
no_next [] (y ∷ ys) none_ours none_theirs = absurd (no_some y none_theirs)

-- ---- one more note

module _ (text : Note → List ℕ) (ours theirs os ts more rest : List Request) (done : List Note) (note : Note)
    (is : in_order ours theirs ≡ done ++ in_order os ts) (next : in_order os ts ≡ note ∷ in_order (ours_after note.0 os) (theirs_after note.0 ts))
    (is_more : more ≡ ours_after note.0 os) (is_rest : rest ≡ theirs_after note.0 ts) where
  left : in_order os ts ≡ note ∷ in_order more rest
  left = next ∙ ap (λ (xs : List Request). note ∷ in_order xs (theirs_after note.0 ts)) (sym is_more) ∙ ap (λ (ys : List Request). note ∷ in_order more ys) (sym is_rest)

  pub one_noted : in_order ours theirs ≡ (done ++ note ∷ []) ++ in_order more rest
  one_noted = is ∙ ap (λ (ns : List Note). done ++ ns) left ∙ sym (append_assoc done (note ∷ []) (in_order more rest))

  pub fewer : length (in_order more rest) < length (in_order os ts)
  fewer = omega (arith, ap (λ (ns : List Note). length ns) left)

  pub noted_text : (before old new : List ℕ) → old ≡ before ++ flat_map text done → new ≡ old ++ text note → new ≡ before ++ flat_map text (done ++ note ∷ [])
  noted_text before old new h k = k ∙ ap (λ (t : List ℕ). t ++ text note) h ∙ flat_map_more text before done note

pub all_noted : (text : Note → List ℕ) (ours theirs os ts : List Request) (done : List Note) (before now : List ℕ) → in_order ours theirs ≡ done ++ in_order os ts → in_order os ts ≡ []
    → now ≡ before ++ flat_map text done → now ≡ before ++ flat_map text (in_order ours theirs)
all_noted text ours theirs os ts done before now is none h =
    h ∙ ap (λ (ns : List Note). before ++ flat_map text ns) (sym (is ∙ ap (λ (ns : List Note). done ++ ns) none ∙ append-nil done))
