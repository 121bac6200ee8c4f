-- Findings that are added, one after the other.
use Rattle.std.proofs.Common.{◌≡◌, ℕ, true, suc, ◌+◌, List, [], ◌∷◌, ◌++◌, take, Option, Some, None, Result, Ok, Err, refl, sym, ap, subst, ◌∙◌, arith, append_assoc}
use Rattle.std.specs.Prelude.{IfSome, OnOk, option_to_list, slice_get}
use Rattle.std.specs.List.{flat_map}
use Rattle.std.proofs.lemmas.Grind.{flat_map-append}
use Rattle.std.proofs.lemmas.List.{append-nil}
use Rattle.std.proofs.lemmas.List.Elements.{All-append, All-cons, filter_map-append}
use Rattle.dia_valid.proofs.Members.{taken}
use Rattle.dia_lint.specs.declared.finding.Finding.{Finding}
use Rattle.dia_lint.specs.declared.finding.Subject.{Subject}
use Rattle.dia_lint.specs.declared.rule.Rule.{Rule}
use Rattle.dia_lint.specs.Exact.{AreOfMessages, is_no_level, is_no_message, is_of_messages, reported}
use Rattle.dia_lint.specs.Gathered.{Adds, gathered, way_of, ways_in}
use Rattle.dia_lint.proofs.Reported.{about, none_reported}

pub adds_more : (a b m l : List ℕ) (v w : List (Rule × Subject)) (xs ys zs : List Finding) → Adds a b v xs ys → Adds m l w ys zs → Adds (a ++ m) (b ++ l) (v ++ w) xs zs
adds_more a b m l v w xs ys zs first second = record {
  of_messages = second.of_messages ∙ ap (λ (ns : List ℕ). ns ++ m) first.of_messages ∙ append_assoc (reported is_no_message xs) a m;
  of_levels = second.of_levels ∙ ap (λ (ns : List ℕ). ns ++ l) first.of_levels ∙ append_assoc (reported is_no_level xs) b l;
  of_ways = second.of_ways ∙ ap (λ (ns : List (Rule × Subject)). ns ++ w) first.of_ways ∙ append_assoc (ways_in xs) v w;
  rules = λ all. second.rules (first.rules all);
}

-- then what messages have
pub adds_then : (a b : List ℕ) (v w : List (Rule × Subject)) (xs ys zs : List Finding) → Adds a b v xs ys → Adds [] [] w ys zs → Adds a b (v ++ w) xs zs
adds_then a b v w xs ys zs first second =
    subst (λ (m : List ℕ). Adds m b (v ++ w) xs zs) (append-nil a) (subst (λ (l : List ℕ). Adds (a ++ []) l (v ++ w) xs zs) (append-nil b) (adds_more a b [] [] v w xs ys zs first second))

pub adds_pushed : (m l : List ℕ) (w : List (Rule × Subject)) (old new xs : List Finding) → new ≡ old ++ xs → reported is_no_message xs ≡ m → reported is_no_level xs ≡ l → ways_in xs ≡ w
    → AreOfMessages xs → Adds m l w old new
adds_pushed m l w old new xs is messages levels ways own = record {
  of_messages = ap (reported is_no_message) is ∙ filter_map-append (about is_no_message) old xs ∙ ap (λ (ns : List ℕ). reported is_no_message old ++ ns) messages;
  of_levels = ap (reported is_no_level) is ∙ filter_map-append (about is_no_level) old xs ∙ ap (λ (ns : List ℕ). reported is_no_level old ++ ns) levels;
  of_ways = ap ways_in is ∙ filter_map-append way_of old xs ∙ ap (λ (ns : List (Rule × Subject)). ways_in old ++ ns) ways;
  rules = λ all. subst AreOfMessages (sym is) (All-append (λ (x : Finding). is_of_messages x.rule ≡ true) old xs all own);
}

-- a finding that may be there
pub of_messages_list : (o : Option Finding) → IfSome o (λ (x : Finding). is_of_messages x.rule ≡ true) → AreOfMessages (option_to_list o)
of_messages_list None own = λ k d lt. absurd (omega (arith, lt))
of_messages_list (Some x) own = All-cons (λ (y : Finding). is_of_messages y.rule ≡ true) x [] own (λ k d lt. absurd (omega (arith, lt)))

-- one part more
pub one_part_more : {X : Type 0} (part : ℕ → List X) (i : ℕ) → gathered part i ++ part i ≡ gathered part (i + 1)
one_part_more part i = ap (gathered part) (let same : suc i ≡ i + 1 = omega arith in same)

-- one rule more
pub one_rule_more : {X Y : Type 0} (f : X → List Y) (xs : List X) (i : ℕ) (x : X) → slice_get xs i ≡ Some x → flat_map f (take i xs) ++ f x ≡ flat_map f (take (i + 1) xs)
one_rule_more {X} {Y} f xs i x at =
    sym (ap (flat_map f) (taken xs i x at) ∙ flat_map-append f (take i xs) (x ∷ []) ∙ ap (λ (ys : List Y). flat_map f (take i xs) ++ ys) (append-nil (f x)))
