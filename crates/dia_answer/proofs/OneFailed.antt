-- The data of Failed-AVP for a fault are one.
use Rattle.std.proofs.Common.{◌≡◌, ℕ, ◌-◌, List, [], ◌∷◌, ◌++◌, drop, Option, Some, None, inl, inr, refl, sym, ap, subst, ◌∙◌, append_assoc}
use Rattle.std.specs.Prelude.{◌⊎◌, MatchOption}
use Rattle.std.proofs.lemmas.List.{append_cancel_left}
use Rattle.std.proofs.lemmas.Option.{none-some, same_Some}
use Rattle.dia_wire.specs.declared.Header.{Header}
use Rattle.dia_wire.specs.Wire.{PlainAvp, SpellsAll, BeginsWithNone}
use Rattle.dia_wire.proofs.Spelling.{one_spelling}
use Rattle.dia_book.specs.declared.DRule.{DRule}
use Rattle.dia_book.specs.Dictionary.{Dictionary}
use Rattle.dia_check.specs.declared.Fault.{Fault}
use Rattle.dia_check.specs.declared.Reason.{Reason}
use Rattle.dia_check.specs.declared.Reason.TheVariants as reason
use Rattle.dia_check.specs.declared.Subject.{Subject}
use Rattle.dia_check.specs.declared.Subject.TheVariants as subject
use Rattle.dia_answer.specs.Failed.{PlainInside, PlainLevel, PlainStep, BeginsBy, IsAround, IsFailed, IsFailedIn, IsShown, IsStep, IsWay, here, innermost, may_have, request_rules, up_to, wrapped}
use Rattle.dia_answer.specs.Requests.{AreFront, IsOfHeader}

-- ---- a level

fronts : (vs ws : List PlainAvp) (f x g y : List ℕ) → SpellsAll vs f → SpellsAll ws g → BeginsWithNone x → BeginsWithNone y → f ++ x ≡ g ++ y → vs ≡ ws
fronts [] [] f x g y s t n m e = refl
fronts [] (w ∷ ws) f x g y s (a, b, p, parts, all) n m e =
    absurd (n w (b ++ y) (a, p, ap (λ (l : List ℕ). l ++ x) (sym s) ∙ e ∙ ap (λ (l : List ℕ). l ++ y) parts ∙ append_assoc a b y))
fronts (v ∷ vs) [] f x g y (a, b, p, parts, all) t n m e =
    absurd (m v (b ++ x) (a, p, ap (λ (l : List ℕ). l ++ y) (sym t) ∙ sym e ∙ ap (λ (l : List ℕ). l ++ x) parts ∙ append_assoc a b x))
fronts (v ∷ vs) (w ∷ ws) f x g y (a, b, p, parts, all) (c, d, q, parts', also) n m e =
    let same : a ++ (b ++ x) ≡ c ++ (d ++ y) = sym (ap (λ (l : List ℕ). l ++ x) parts ∙ append_assoc a b x) ∙ e ∙ (ap (λ (l : List ℕ). l ++ y) parts' ∙ append_assoc c d y) in
    let o = one_spelling v w a c (b ++ x) (d ++ y) p q same in
    let rests : b ++ x ≡ d ++ y = append_cancel_left a (b ++ x) (d ++ y) (same ∙ ap (λ (l : List ℕ). l ++ (d ++ y)) (sym o.1)) in
    let later : vs ≡ ws = fronts vs ws b x d y all also n m rests in
    λ i. o.0 i ∷ later i

pub one_front : (vs ws : List PlainAvp) (level : List ℕ) → AreFront vs level → AreFront ws level → vs ≡ ws
one_front vs ws level f g = fronts vs ws f.front f.rest g.front g.rest f.spelled g.spelled f.none g.none (sym f.parts ∙ g.parts)

-- ---- the groups around a place

abbrev inside_of : PlainStep → PlainInside
inside_of s = record { group = s.group; rules = s.level.rules; place = s.level.place }

one_step : (d : Dictionary) (l : PlainLevel) (s t : PlainStep) → IsStep d l s → IsStep d l t → s ≡ t
one_step d l s t (i, b, f) (j, c, g) =
    let same : inside_of s ≡ inside_of t = same_Some (inside_of s) (inside_of t) (sym i ∙ j) in
    let group : s.group ≡ t.group = ap (λ (x : PlainInside). x.group) same in
    let rules : s.level.rules ≡ t.level.rules = ap (λ (x : PlainInside). x.rules) same in
    let place : s.level.place ≡ t.level.place = ap (λ (x : PlainInside). x.place) same in
    let bytes : s.level.bytes ≡ t.level.bytes = b ∙ ap (λ (v : PlainAvp). v.bytes) group ∙ sym c in
    let avps : s.level.avps ≡ t.level.avps = one_front s.level.avps t.level.avps t.level.bytes (subst (AreFront s.level.avps) bytes f) g in
    λ k. record { group = group k; level = record { rules = rules k; bytes = bytes k; avps = avps k; place = place k } }

one_way : (d : Dictionary) (l : PlainLevel) (a b : List PlainStep) → IsWay d l a → IsWay d l b → a ≡ b
one_way d l [] [] h k = refl
one_way d l [] (t ∷ b) h (q, k) = absurd (none-some (inside_of t) (sym h ∙ q.0))
one_way d l (s ∷ a) [] (p, h) k = absurd (none-some (inside_of s) (sym k ∙ p.0))
one_way d l (s ∷ a) (t ∷ b) (p, h) (q, k) =
    let same : s ≡ t = one_step d l s t p q in
    let later : a ≡ b = one_way d t.level a b (subst (λ (x : PlainStep). IsWay d x.level a) same h) k in
    λ i. same i ∷ later i

one_around : (d : Dictionary) (rules : List DRule) (body : List ℕ) (f : Fault) (o p : PlainLevel) (g h : List PlainStep) → IsAround d rules body f o g → IsAround d rules body f p h → (o ≡ p) × (g ≡ h)
one_around d rules body f o p g h a b =
    let avps : o.avps ≡ p.avps = one_front o.avps p.avps body a.front b.front in
    let outer : o ≡ p = a.is_outer ∙ ap (λ (vs : List PlainAvp). record { rules = rules; bytes = body; avps = vs; place = f.place - 20 }) avps ∙ sym b.is_outer in
    let way : a.way ≡ b.way = one_way d p a.way b.way (subst (λ (l : PlainLevel). IsWay d l a.way) outer a.is_way) b.is_way in
    (outer, a.are_groups ∙ ap (up_to (may_have f.reason f.subject)) way ∙ sym b.are_groups)

-- ---- the AVP that shows the fault

one_begun : (bytes : List ℕ) (a b : Option PlainAvp) → BeginsBy bytes a → BeginsBy bytes b → a ≡ b
one_begun bytes None None h k = refl
one_begun bytes None (Some w) h (rest, k) = absurd (h w rest k)
one_begun bytes (Some v) None (rest, h) k = absurd (k v rest h)
one_begun bytes (Some v) (Some w) (x, (a, s, p)) (y, (b, t, q)) = ap (λ (z : PlainAvp). Some z) (one_spelling v w a b x y s t (sym p ∙ q)).0

one_shown : (d : Dictionary) (r : Reason) (s : Subject) (bytes : List ℕ) (a b : Option PlainAvp) → IsShown d r s bytes a → IsShown d r s bytes b → a ≡ b
one_shown d reason.Missing (subject.Avp key) bytes a b h k = h ∙ sym k
one_shown d reason.Missing subject.Nothing bytes a b h k = h ∙ sym k
one_shown d reason.Missing subject.Wildcard bytes a b h k = h ∙ sym k
one_shown d reason.AvpLength s bytes a b h k = h ∙ sym k
one_shown d reason.Version s bytes a b h k = one_begun bytes a b h k
one_shown d reason.Length s bytes a b h k = one_begun bytes a b h k
one_shown d reason.Bits s bytes a b h k = one_begun bytes a b h k
one_shown d reason.Command s bytes a b h k = one_begun bytes a b h k
one_shown d reason.Application s bytes a b h k = one_begun bytes a b h k
one_shown d reason.Proxiable s bytes a b h k = one_begun bytes a b h k
one_shown d reason.Unknown s bytes a b h k = one_begun bytes a b h k
one_shown d reason.MBit s bytes a b h k = one_begun bytes a b h k
one_shown d reason.NotAllowed s bytes a b h k = one_begun bytes a b h k
one_shown d reason.TooMany s bytes a b h k = one_begun bytes a b h k
one_shown d reason.LeafLength s bytes a b h k = one_begun bytes a b h k
one_shown d reason.LeafValue s bytes a b h k = one_begun bytes a b h k
one_shown d reason.Depth s bytes a b h k = one_begun bytes a b h k

-- ---- all

one_failed_in : (d : Dictionary) (rules : List DRule) (body : List ℕ) (f : Fault) (a b : Option (List ℕ)) → IsFailedIn d rules body f a → IsFailedIn d rules body f b → a ≡ b
one_failed_in d rules body f a b x y =
    let around = one_around d rules body f x.outer y.outer x.groups y.groups x.around y.around in
    let bytes : here (innermost x.outer x.groups) ≡ here (innermost y.outer y.groups) = λ i. here (innermost (around.0 i) (around.1 i)) in
    let shown : x.shown ≡ y.shown =
    one_shown d f.reason f.subject (here (innermost y.outer y.groups)) x.shown y.shown (subst (λ (b : List ℕ). IsShown d f.reason f.subject b x.shown) bytes x.is_shown) y.is_shown in
    x.is_data ∙ (λ i. wrapped (around.1 i) (shown i)) ∙ sym y.is_data

pub of_header_or : (r : Reason) → IsOfHeader r ⊎ (¬ IsOfHeader r)
of_header_or reason.Version = inl tt
of_header_or reason.Length = inl tt
of_header_or reason.Bits = inl tt
of_header_or reason.Command = inl tt
of_header_or reason.Application = inl tt
of_header_or reason.Proxiable = inl tt
of_header_or reason.AvpLength = inr (λ h. h)
of_header_or reason.Unknown = inr (λ h. h)
of_header_or reason.MBit = inr (λ h. h)
of_header_or reason.Missing = inr (λ h. h)
of_header_or reason.NotAllowed = inr (λ h. h)
of_header_or reason.TooMany = inr (λ h. h)
of_header_or reason.LeafLength = inr (λ h. h)
of_header_or reason.LeafValue = inr (λ h. h)
of_header_or reason.Depth = inr (λ h. h)

pub one_failed : (d : Dictionary) (h : Header) (request : List ℕ) (f : Fault) (a b : Option (List ℕ)) → IsFailed d h request f a → IsFailed d h request f b → a ≡ b
one_failed d h request f a b x y = by (of_header_or f.reason)
  where
    in_body : (o : Option (List DRule)) → MatchOption o (a ≡ None) (λ rules. IsFailedIn d rules (drop 20 request) f a) → MatchOption o (b ≡ None) (λ rules. IsFailedIn d rules (drop 20 request) f b) → a ≡ b
    in_body None p q = p ∙ sym q
    in_body (Some rules) p q = one_failed_in d rules (drop 20 request) f a b p q

    by : IsOfHeader f.reason ⊎ (¬ IsOfHeader f.reason) → a ≡ b
    by (inl is) = x.of_header is ∙ sym (y.of_header is)
    by (inr other) = in_body (request_rules d h) (x.of_body other) (y.of_body other)
