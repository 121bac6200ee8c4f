-- The pairs of a table, and their report.
use Rattle.std.proofs.Common.{◌≡◌, ◌∙◌, ℕ, ◌<◌, List, [], Result, Ok, Err, Some, refl, sym, ap, ap₂, subst, codes, arith, get_or, length, map}
use Rattle.std.specs.Prelude.{◌≢◌, ◌↔◌, IfOk, String, option_map, slice_get, string_bytes}
use Rattle.std.specs.Global.{Global}
use Rattle.std.proofs.lemmas.List.{length-map}
use Rattle.std.proofs.lemmas.Option.{slice_get-map, slice_get_read}
use Rattle.serde_json.specs.Data.{array, no_members}
use Rattle.serde_json.specs.Written.{compact_text}
use Rattle.serde_json.proofs.OnLiterals.{serde_json_on_literals}
use Rattle.dia_dict.specs.Dictionary.{Dictionary}
use Rattle.dia_terms.specs.declared.Unknown.{Unknown}
use Rattle.dia_compat.specs.declared.Answer.{Answer}
use Rattle.dia_compat.specs.declared.Answer.TheVariants.{Yes, No}
use Rattle.dia_compat.specs.declared.Failing.{Failing}
use Rattle.dia_compat.specs.declared.PairKind.{PairKind}
use Rattle.dia_compat.specs.declared.PairKind.TheVariants as kind
use Rattle.dia_compat.specs.declared.Table.{Table}
use Rattle.dia_compat.specs.declared.Test.{Test}
use Rattle.dia_compat.specs.Closed.{pairs_of}
use Rattle.dia_compat.specs.Failings.{AreFailingsFor, AreFailingsOf}
use Rattle.dia_compat.specs.TableText.{PlainTable, plain_pair, plain_table}
use Rattle.dia_io.specs.declared.Exit.TheVariants as exits
use Rattle.dia_run.specs.declared.commands.Outcome.{Outcome}
use Rattle.dia_refused_json.specs.Members.{json_line, verdict_members}
use Rattle.dia_compared_json.specs.Compared.{IsAnswerJson}
use Rattle.dia_compared_json.specs.Failures.{pairs_listed}
use Rattle.dia_compared_json.specs.Objects.{items_of}
use Rattle.dia_compared_json.specs.Parts.{Side, failing_value}

pair_there : (pairs : List (String Global × String Global)) (p : String Global × String Global) (i : ℕ) → i < length (map plain_pair pairs) → p ≡ get_or pairs i p
    → slice_get (map plain_pair pairs) i ≡ Some (plain_pair p)
pair_there pairs p i within is =
    let inside : i < length pairs = omega (arith, within, length-map pairs plain_pair) in
    slice_get-map plain_pair pairs i ∙ ap (option_map plain_pair) (slice_get_read pairs (length pairs) i p refl inside is)

-- of a table's commands and of its AVPs

pub command_there : (t : Table) (k : PairKind) (i : ℕ) (p : String Global × String Global) → k ≡ kind.Command → i < length (pairs_listed k (plain_table t)) → p ≡ get_or t.commands.items i p
    → slice_get (pairs_listed k (plain_table t)) i ≡ Some (plain_pair p)
command_there t k i p is_k within is =
    let inside : i < length (map plain_pair t.commands.items) = subst (λ (l : PairKind). i < length (pairs_listed l (plain_table t))) is_k within in
    subst (λ (l : PairKind). slice_get (pairs_listed l (plain_table t)) i ≡ Some (plain_pair p)) (sym is_k) (pair_there t.commands.items p i inside is)

pub avp_there : (t : Table) (k : PairKind) (i : ℕ) (p : String Global × String Global) → k ≡ kind.Avp → i < length (pairs_listed k (plain_table t)) → p ≡ get_or t.avps.items i p
    → slice_get (pairs_listed k (plain_table t)) i ≡ Some (plain_pair p)
avp_there t k i p is_k within is =
    let inside : i < length (map plain_pair t.avps.items) = subst (λ (l : PairKind). i < length (pairs_listed l (plain_table t))) is_k within in
    subst (λ (l : PairKind). slice_get (pairs_listed l (plain_table t)) i ≡ Some (plain_pair p)) (sym is_k) (pair_there t.avps.items p i inside is)

pub listed_within : (k : PairKind) (t : PlainTable) (i : ℕ) → i < pairs_of k t → i < length (pairs_listed k t)
listed_within kind.Command t i within = within
listed_within kind.Avp t i within = within

-- ---- what an answer of no comes with

pub fails_of_pair : (a b : Dictionary) (u : Unknown) (table : PlainTable) (answer : Answer) (k : PairKind) (i : ℕ) (t : Test) (all fails : List Failing) → answer ≡ No k i t → fails ≡ all
    → AreFailingsFor a b u table answer all → AreFailingsOf a b u table k i t fails
fails_of_pair a b u table answer k i t all fails is same h =
    subst (AreFailingsOf a b u table k i t) (sym same) (subst (λ (x : Answer). AreFailingsFor a b u table x all) is h)

pub not_none : (answer : Answer) (k : PairKind) (i : ℕ) (t : Test) (all fails : List Failing) → answer ≡ No k i t → fails ≡ all → (all ≡ []) ↔ (answer ≡ Yes) → fails ≢ []
not_none answer k i t all fails is same none e = let no : No k i t ≡ Yes = sym is ∙ none.0 (sym same ∙ e) in cc

-- ---- texts

-- the same of the same sides
pub fails_recorded : (x y a b : Side) (fails : List Failing) (text : List ℕ) → x ≡ a → y ≡ b → text ≡ compact_text (array (items_of (map (failing_value x y) fails)))
    → text ≡ compact_text (array (items_of (map (failing_value a b) fails)))
fails_recorded x y a b fails text is_a is_b is = is ∙ ap₂ (λ (s t : Side). compact_text (array (items_of (map (failing_value s t) fails)))) is_a is_b

yes_is : codes "{\"verdict\":\"yes\"}\n" ≡ json_line (verdict_members (codes "yes") no_members)
unfolding serde_json_on_literals
yes_is = refl

pub yes_recorded : {E : Type 0} (a b : Dictionary) (u : Unknown) (table : PlainTable) (answer : Answer) (r : Result Outcome E) → answer ≡ Yes
    → IfOk r (λ o. string_bytes o.text ≡ codes "{\"verdict\":\"yes\"}\n") → IfOk r (λ o. o.exit ≡ exits.Yes) → IfOk r (λ o. IsAnswerJson a b u table answer (string_bytes o.text) o.exit)
yes_recorded a b u table answer (Ok o) is is_text is_exit = subst (λ (x : Answer). IsAnswerJson a b u table x (string_bytes o.text) o.exit) (sym is) (is_text ∙ yes_is, is_exit)
yes_recorded a b u table answer (Err e) is is_text is_exit = tt
