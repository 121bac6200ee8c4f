-- Two dictionaries, a policy and a table have one text of `compare`.
use Rattle.std.proofs.Common.{◌≡◌, ℕ, Bool, true, false, List, [], Option, Some, None, refl, sym, ap₂, subst, ◌∙◌}
use Rattle.std.specs.Prelude.{◌↔◌, IsTrue, MatchBool, MatchOption, slice_get, option_to_list, ◌++◌}
use Rattle.std.proofs.lemmas.Option.{same_Some}
use Rattle.dia_book.specs.Keys.{same_key}
use Rattle.dia_book.specs.Dictionary.{Dictionary, DictEntry}
use Rattle.dia_valid.proofs.Entries.{at_position}
use Rattle.dia_terms.specs.declared.Unknown.{Unknown}
use Rattle.dia_io.specs.declared.Exit.{Exit}
use Rattle.dia_compat.specs.declared.Answer.{Answer}
use Rattle.dia_compat.specs.declared.Answer.TheVariants.{Yes, No}
use Rattle.dia_compat.specs.declared.Failing.{Failing}
use Rattle.dia_compat.specs.declared.Failing.TheVariants as failing
use Rattle.dia_compat.specs.declared.PairKind.{PairKind}
use Rattle.dia_compat.specs.declared.PairKind.TheVariants as kind
use Rattle.dia_compat.specs.declared.Test.{Test}
use Rattle.dia_compat.specs.Failings.{AreAvpFailings, AreDeclarationFailings, AreEntryFailings, AreFailings, AreFailingsOf, is_tenth, pairs_in, unless}
use Rattle.dia_compat.specs.PairTests.{NamePair, entry_named}
use Rattle.dia_compat.specs.Sides.{Compared, compared}
use Rattle.dia_compat.specs.TableText.{PlainTable}
use Rattle.dia_compat.proofs.OneAnswer.{one_comparison}
use Rattle.dia_compared_json.specs.Compared.{ComparisonHasOneText, IsAnswerJson, IsFailureJson}
use Rattle.dia_compared_json.specs.Failures.{failure_json}

-- two answers to one question
same_answer : {P : Type 0} (x y : Bool) → IsTrue x ↔ P → IsTrue y ↔ P → x ≡ y
same_answer true true h k = refl
same_answer false false h k = refl
same_answer true false h k = sym (k.1 (h.0 refl))
same_answer false true h k = h.1 (k.0 refl)

one_declaration : (e f : DictEntry) (l k : List Failing) → AreDeclarationFailings e f l → AreDeclarationFailings e f k → l ≡ k
one_declaration e f l k x y = x.are ∙ ap₂ recorded (same_answer x.takes_flag y.takes_flag x.flag_is y.flag_is) (same_answer x.takes_format y.takes_format x.format_is y.format_is) ∙ sym y.are
  where
    recorded : Bool → Bool → List Failing
    recorded flag format = option_to_list (unless (same_key e.key f.key) failing.Keys) ++ option_to_list (unless flag failing.MRules) ++ option_to_list (unless format failing.Formats)

module _ (c : Compared) where
  of_entries : (t : Test) (i j : ℕ) (e f : DictEntry) → slice_get c.sides.first.entries i ≡ Some e → slice_get c.sides.second.entries j ≡ Some f
      → (l k : List Failing) → AreEntryFailings c t i j l → AreEntryFailings c t i j k → l ≡ k
  of_entries t i j e f at_i at_j l k h g = by _ (is_tenth t) h g
    where
      Declared : List Failing → Type 0
      Declared all = (x y : DictEntry) → slice_get c.sides.first.entries i ≡ Some x → slice_get c.sides.second.entries j ≡ Some y → AreDeclarationFailings x y all

      by : (rest : List Failing) (b : Bool) → MatchBool b (Declared l) (l ≡ rest) → MatchBool b (Declared k) (k ≡ rest) → l ≡ k
      by rest true m n = one_declaration e f l k (m e f at_i at_j) (n e f at_i at_j)
      by rest false m n = m ∙ sym n

  of_avps : (t : Test) (p : NamePair) (l k : List Failing) → AreFailings c kind.Avp t p l → AreFailings c kind.Avp t p k → l ≡ k
  of_avps t p l k h g = by (entry_named c.sides.first p.0) (entry_named c.sides.second p.1) refl refl h g
    where
      by : (o q : Option ℕ) → entry_named c.sides.first p.0 ≡ o → entry_named c.sides.second p.1 ≡ q → AreAvpFailings c t o q l → AreAvpFailings c t o q k → l ≡ k
      by (Some i) (Some j) en fn m n =
          let x = at_position _ c.sides.first.entries i en in
          let y = at_position _ c.sides.second.entries j fn in
          of_entries t i j x.0 y.0 x.1 y.1 l k m n
      by (Some i) None en fn m n = m ∙ sym n
      by None (Some j) en fn m n = m ∙ sym n
      by None None en fn m n = m ∙ sym n

  of_pair : (k : PairKind) (t : Test) (p : NamePair) (l m : List Failing) → AreFailings c k t p l → AreFailings c k t p m → l ≡ m
  of_pair kind.Command t p l m h g = h ∙ sym g
  of_pair kind.Avp t p l m h g = of_avps t p l m h g

one_list : (a b : Dictionary) (u : Unknown) (table : PlainTable) (k : PairKind) (i : ℕ) (t : Test) (l m : List Failing)
    → AreFailingsOf a b u table k i t l → AreFailingsOf a b u table k i t m → l ≡ m
one_list a b u table k i t l m h g = by (slice_get (pairs_in k all) i) h g
  where
    all : Compared
    all = compared (record { first = a; second = b; unknown = u }) table

    by : (o : Option NamePair) → MatchOption o (l ≡ []) (λ p. AreFailings all k t p l) → MatchOption o (m ≡ []) (λ p. AreFailings all k t p m) → l ≡ m
    by None x y = x ∙ sym y
    by (Some p) x y = of_pair all k t p l m x y

of_failure : (a b : Dictionary) (u : Unknown) (table : PlainTable) (k : PairKind) (i : ℕ) (t : Test) (text other : List ℕ) (exit ending : Exit)
    → IsFailureJson a b u table k i t text exit → IsFailureJson a b u table k i t other ending → (text ≡ other) × (exit ≡ ending)
of_failure a b u table k i t text other exit ending x y = (
  x.is_text ∙ ap₂ (λ p fails. failure_json a b k p t fails) (same_Some x.p y.p (sym x.is_pair ∙ y.is_pair)) (one_list a b u table k i t x.fails y.fails x.are_all y.are_all) ∙ sym y.is_text,
  x.is_exit ∙ sym y.is_exit,
)

of_answer : (a b : Dictionary) (u : Unknown) (table : PlainTable) (answer : Answer) (text other : List ℕ) (exit ending : Exit)
    → IsAnswerJson a b u table answer text exit → IsAnswerJson a b u table answer other ending → (text ≡ other) × (exit ≡ ending)
of_answer a b u table Yes text other exit ending x y = (x.0 ∙ sym y.0, x.1 ∙ sym y.1)
of_answer a b u table (No k i t) text other exit ending x y = of_failure a b u table k i t text other exit ending x y

pub one_text : ComparisonHasOneText
one_text a b u table text other exit ending (x, is_x, recorded_x) (y, is_y, recorded_y) =
    of_answer a b u table y text other exit ending (subst (λ z. IsAnswerJson a b u table z text exit) (one_comparison a b u table x y is_x is_y) recorded_x) recorded_y
