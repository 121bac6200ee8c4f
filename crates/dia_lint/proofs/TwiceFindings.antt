-- Findings of ranges, as they are added.
use Rattle.std.proofs.Common.{◌≡◌, ℕ, ◌+◌, List, [], ◌∷◌, ◌++◌, length, length-append, Option, Some, None, refl, sym, ap, subst, ◌∙◌, arith, inl, inr}
use Rattle.std.specs.Prelude.{◌⊎◌, flat_map, option_and_then, option_to_list, slice_get, IfSome}
use Rattle.std.proofs.lemmas.List.{append-nil}
use Rattle.std.proofs.lemmas.List.Concat.{flat_map-append}
use Rattle.std.proofs.lemmas.List.Elements.{All-append, All-cons}
use Rattle.std.proofs.lemmas.Option.{none-some}
use Rattle.dia_book.specs.Dictionary.{Dictionary, DictEntry}
use Rattle.dia_lint.specs.declared.finding.Finding.{Finding}
use Rattle.dia_lint.specs.declared.rule.Rule.{Rule}
use Rattle.dia_lint.specs.declared.rule.Rule.TheVariants as rule
use Rattle.dia_lint.specs.Exact.{AreOf}
use Rattle.dia_lint.specs.Gathered.{gathered}
use Rattle.dia_lint.specs.TwiceListed.{AreOfEntry, AreTwiceListed, twice_finding, twice_part}
use Rattle.dia_lint.proofs.Added.{one_part_more}
use Rattle.dia_lint.proofs.JoinedRanges.{at_push}

pub none_of : (r : Rule) → AreOf r []
none_of r = λ k d lt. absurd (omega (arith, lt))

pub one_more_of : (r : Rule) (xs : List Finding) (o : Option Finding) → AreOf r xs → IfSome o (λ (x : Finding). x.rule ≡ r) → AreOf r (xs ++ option_to_list o)
one_more_of r xs None all own = subst (AreOf r) (sym (append-nil xs)) all
one_more_of r xs (Some x) all own = All-append (λ (y : Finding). y.rule ≡ r) xs (x ∷ []) all (All-cons (λ (y : Finding). y.rule ≡ r) x [] own (none_of r))

pub more_of : (r : Rule) (xs ys : List Finding) → AreOf r xs → AreOf r ys → AreOf r (xs ++ ys)
more_of r xs ys all own = All-append (λ (y : Finding). y.rule ≡ r) xs ys all own

pub no_entry : (d : Dictionary) → AreTwiceListed d 0 []
no_entry d = record { parts = []; count = refl; each = λ e x part at there. absurd (none-some part there); all = refl }

-- one AVP more
pub entry_more : (d : Dictionary) (n : ℕ) (old own new : List Finding) → AreTwiceListed d n old → IfSome (slice_get d.entries n) (λ x. AreOfEntry n x own) → new ≡ old ++ own
    → AreTwiceListed d (n + 1) new
entry_more d n old own new are one same = record {
  parts = are.parts ++ own ∷ [];
  count = simp length-append (ap (λ (k : ℕ). k + 1) are.count);
  each = λ e x part at there. by e x part at (at_push are.parts own e part there);
  all = same ∙ ap (λ (xs : List Finding). xs ++ own) are.all ∙ ap (λ (xs : List Finding). flat_map (λ (part : List Finding). part) are.parts ++ xs) (sym (append-nil own))
      ∙ sym (flat_map-append (λ (part : List Finding). part) are.parts (own ∷ []));
}
  where
    by : (e : ℕ) (x : DictEntry) (part : List Finding) → slice_get d.entries e ≡ Some x → (slice_get are.parts e ≡ Some part) ⊎ ((e ≡ length are.parts) × (own ≡ part)) → AreOfEntry e x part
    by e x part at (inl there) = are.each e x part at there
    by e x part at (inr (last, is)) =
        let here : e ≡ n = last ∙ are.count in
        let given : IfSome (Some x) (λ y. AreOfEntry n y own) = subst (λ (o : Option DictEntry). IfSome o (λ y. AreOfEntry n y own)) (ap (slice_get d.entries) (sym here) ∙ at) one in
        subst (λ (k : ℕ). AreOfEntry k x part) (sym here) (subst (AreOfEntry n x) is given)

-- ---- one range more

of_twice : (e : ℕ) (least : Option ℕ) → IfSome (twice_finding e least) (λ (x : Finding). x.rule ≡ rule.TwiceListed)
of_twice e None = tt
of_twice e (Some n) = refl

pub range_more : (e i : ℕ) (numbers : List (Option ℕ)) (least : Option ℕ) (old new : List Finding) (one : Option Finding) → slice_get numbers i ≡ Some least → one ≡ twice_finding e least
    → new ≡ old ++ option_to_list one
    → AreOf rule.TwiceListed old × (old ≡ gathered (twice_part e numbers) i) → AreOf rule.TwiceListed new × (new ≡ gathered (twice_part e numbers) (i + 1))
range_more e i numbers least old new one at is same was = (
  subst (AreOf rule.TwiceListed) (sym same) (one_more_of rule.TwiceListed old one was.0 (subst (λ (o : Option Finding). IfSome o (λ (x : Finding). x.rule ≡ rule.TwiceListed)) (sym is)
      (of_twice e least))),
  same ∙ ap (λ (xs : List Finding). xs ++ option_to_list one) was.1 ∙ ap (λ (o : Option Finding). gathered (twice_part e numbers) i ++ option_to_list o) part ∙ one_part_more (twice_part e numbers) i,
)
  where
    part : one ≡ option_and_then (twice_finding e) (slice_get numbers i)
    part = is ∙ ap (option_and_then (twice_finding e)) (sym at)

-- as the calls say it: the entry has this number, and its findings are copied
pub added_more : (d : Dictionary) (n e : ℕ) (old own added new : List Finding) → AreOf rule.TwiceListed old × AreTwiceListed d n old → e ≡ n → AreOf rule.TwiceListed own
    → IfSome (slice_get d.entries e) (λ x. AreOfEntry e x own) → added ≡ own → new ≡ old ++ added
    → AreOf rule.TwiceListed new × AreTwiceListed d (n + 1) new
added_more d n e old own added new are same of one copied is =
    let joined : new ≡ old ++ own = is ∙ ap (λ (xs : List Finding). old ++ xs) copied in (
      subst (AreOf rule.TwiceListed) (sym joined) (more_of rule.TwiceListed old own are.0 of),
      entry_more d n old own new are.1 (subst (λ (k : ℕ). IfSome (slice_get d.entries k) (λ x. AreOfEntry k x own)) same one) joined,
    )
