-- The line of a pair that fails a test.
use Rattle.std.proofs.Common.{◌≡◌, ℕ, ◌<◌, List, ◌++◌, length, map, Result, Ok, Err, refl, sym, subst, ap, ◌∙◌, append_assoc, get_or, codes, arith}
use Rattle.std.specs.Prelude.{IfOk, String, string_bytes, option_map}
use Rattle.std.specs.Global.{Global}
use Rattle.std.proofs.lemmas.Option.{slice_get-map, slice_get_read}
use Rattle.std.proofs.lemmas.List.{length-map}
use Rattle.dia_dict.specs.Dictionary.{Dictionary}
use Rattle.dia_check.specs.declared.Unknown.{Unknown}
use Rattle.dia_compat.specs.declared.Answer.{Answer}
use Rattle.dia_compat.specs.declared.Answer.TheVariants.{Yes, No}
use Rattle.dia_compat.specs.declared.PairKind.TheVariants as pair
use Rattle.dia_compat.specs.declared.Test.{Test}
use Rattle.dia_compat.specs.declared.PairKind.{PairKind}
use Rattle.dia_compat.specs.declared.Table.{Table}
use Rattle.dia_compat.specs.TableText.{PlainTable, plain_table, plain_pair}
use Rattle.dia_compat.specs.Closed.{IsTableAnswer}
use Rattle.dia_io.specs.declared.Exit.{Exit}
use Rattle.dia_io.specs.declared.Exit.TheVariants as exits
use Rattle.dia_run.specs.declared.commands.Outcome.{Outcome}
use Rattle.dia_run.specs.Pairs.{IsAnswerText, IsFailureText, failure_line, NamesPair, test_word}

-- the pair of a failure stands in the table
pub names_pair : (a b : Dictionary) (u : Unknown) (table : PlainTable) (answer : Answer) → IsTableAnswer a b u table answer → NamesPair table answer
names_pair a b u table Yes h = tt
names_pair a b u table (No k i test) h = h.within

abbrev Pairs : Type 0
Pairs = List (String Global × String Global)

-- the line of the pair at a place of a list
failed_at : (word : List ℕ) (pairs : Pairs) (p : String Global × String Global) (i : ℕ) (test : Test) (text : List ℕ) (exit : Exit) → i < length (map plain_pair pairs) → p ≡ get_or pairs i p
    → text ≡ failure_line word (plain_pair p) test → exit ≡ exits.No → IsFailureText word (map plain_pair pairs) i test text exit
failed_at word pairs p i test text exit within is is_text is_exit =
    let inside : i < length pairs = omega (arith, within, length-map pairs plain_pair) in
    (plain_pair p, slice_get-map plain_pair pairs i ∙ ap (option_map plain_pair) (slice_get_read pairs (length pairs) i p refl inside is), is_text, is_exit)

-- the outcome of a pair that fails a test, if memory sufficed for it
abbrev FailsAt : {E : Type 0} → List ℕ → Pairs → ℕ → Test → Result Outcome E → Type 0
FailsAt word pairs i test r = IfOk r (λ o. IsFailureText word (map plain_pair pairs) i test (string_bytes o.text) o.exit)

fails_at : {E : Type 0} (word : List ℕ) (pairs : Pairs) (p : String Global × String Global) (i : ℕ) (test : Test) (r : Result Outcome E) → i < length (map plain_pair pairs) → p ≡ get_or pairs i p
    → IfOk r (λ o. string_bytes o.text ≡ failure_line word (plain_pair p) test) → IfOk r (λ o. o.exit ≡ exits.No) → FailsAt word pairs i test r
fails_at word pairs p i test (Ok o) within is is_text is_exit = failed_at word pairs p i test (string_bytes o.text) o.exit within is is_text is_exit
fails_at word pairs p i test (Err e) within is is_text is_exit = tt

pub command_fails : {E : Type 0} (table : Table) (answer : Answer) (k : PairKind) (i : ℕ) (test : Test) (p : String Global × String Global) (r : Result Outcome E) → answer ≡ No k i test
    → k ≡ pair.Command
    → NamesPair (plain_table table) answer → p ≡ get_or table.commands.items i p
    → IfOk r (λ o. string_bytes o.text ≡ failure_line (codes "command") (plain_pair p) test) → IfOk r (λ o. o.exit ≡ exits.No)
    → IfOk r (λ o. IsAnswerText (plain_table table) answer (string_bytes o.text) o.exit)
command_fails table answer k i test p r is is_k names at is_text is_exit =
    let same = is ∙ ap (λ (j : PairKind). No j i test) is_k in
    subst (λ (a : Answer). IfOk r (λ o. IsAnswerText (plain_table table) a (string_bytes o.text) o.exit)) (sym same)
    (fails_at (codes "command") table.commands.items p i test r (subst (NamesPair (plain_table table)) same names) at is_text is_exit)

pub avp_fails : {E : Type 0} (table : Table) (answer : Answer) (k : PairKind) (i : ℕ) (test : Test) (p : String Global × String Global) (r : Result Outcome E) → answer ≡ No k i test → k ≡ pair.Avp
    → NamesPair (plain_table table) answer → p ≡ get_or table.avps.items i p → IfOk r (λ o. string_bytes o.text ≡ failure_line (codes "avp") (plain_pair p) test) → IfOk r (λ o. o.exit ≡ exits.No)
    → IfOk r (λ o. IsAnswerText (plain_table table) answer (string_bytes o.text) o.exit)
avp_fails table answer k i test p r is is_k names at is_text is_exit =
    let same = is ∙ ap (λ (j : PairKind). No j i test) is_k in
    subst (λ (a : Answer). IfOk r (λ o. IsAnswerText (plain_table table) a (string_bytes o.text) o.exit)) (sym same)
    (fails_at (codes "avp") table.avps.items p i test r (subst (NamesPair (plain_table table)) same names) at is_text is_exit)

nine : (a b c d e f g h i : List ℕ) → (((a ++ (b ++ c ++ d ++ e ++ f)) ++ g) ++ h) ++ i ≡ a ++ (b ++ (c ++ (d ++ (e ++ (f ++ (g ++ (h ++ i)))))))
nine a b c d e f g h i =
    append_assoc ((a ++ (b ++ c ++ d ++ e ++ f)) ++ g) h i ∙ append_assoc (a ++ (b ++ c ++ d ++ e ++ f)) g (h ++ i) ∙ append_assoc a (b ++ c ++ d ++ e ++ f) (g ++ (h ++ i))
    ∙ ap (λ (t : List ℕ). a ++ t) (append_assoc (b ++ c ++ d ++ e) f (g ++ (h ++ i)) ∙ append_assoc (b ++ c ++ d) e (f ++ (g ++ (h ++ i)))
    ∙ append_assoc (b ++ c) d (e ++ (f ++ (g ++ (h ++ i)))) ∙ append_assoc b c (d ++ (e ++ (f ++ (g ++ (h ++ i))))))

-- the line of a pair, as it is made
pub failure_recorded : (text word left right tested : List ℕ) (p : List ℕ × List ℕ) (test : Test)
    → text ≡ codes "no " ++ (word ++ (codes " " ++ (left ++ (codes " = " ++ (right ++ (codes " " ++ (tested ++ codes "\n")))))))
    → left ≡ p.0 → right ≡ p.1 → tested ≡ test_word test → text ≡ failure_line word p test
failure_recorded text word left right tested p test is is_left is_right is_tested =
    is ∙ rw (is_left, is_right, is_tested) (sym (nine (codes "no ") word (codes " ") p.0 (codes " = ") p.1 (codes " ") (test_word test) (codes "\n")))
