-- The head of an AVP whose Length is bad.
use Rattle.std.proofs.Common.{◌≡◌, ℕ, ◌+◌, ◌-◌, ◌≤◌, Bool, true, false, cond, List, [], ◌++◌, length, take, drop, Option, Some, None, refl, sym, ap, ◌∙◌, append-nil, arith}
use Rattle.std.specs.Prelude.{min, nat_lt, option_and_then, replicate, slice_index, unwrap_or}
use Rattle.std.specs.Option.{option_map, option_map_or}
use Rattle.std.proofs.Math.Seq.{take-append-add}
use Rattle.std.proofs.lemmas.Bool.{le-ltb, ltb-false, ltb-true}
use Rattle.std.proofs.lemmas.List.{drop-replicate, take-append-le, take-replicate, take_all}
use Rattle.dia_wire.specs.declared.Key.{Key}
use Rattle.dia_wire.specs.Number.{number}
use Rattle.dia_wire.specs.Wire.{head_length}
use Rattle.dia_breaking_data.specs.Shortest.{witness_bytes}
use Rattle.dia_breaking_data.specs.TheData.{the_data}
use Rattle.dia_breaking_data.specs.declared.Witness.{Witness}
use Rattle.dia_book.specs.Dictionary.{Dictionary}
use Rattle.dia_valid.specs.Valid.{known}
use Rattle.dia_answer.specs.declared.example.Example.{Example}
use Rattle.dia_answer.specs.Examples.{plain_example}
use Rattle.dia_answer.specs.Failed.{corrected, filled_head, head_key, head_vendor, least_data}

pub filled_by : (level new : List ℕ) (n : ℕ) → n ≡ min (length level) 12 → new ≡ take n level → new ++ drop n (replicate 12 0) ≡ filled_head level
filled_by level new n least is = by (nat_lt (length level) 12) refl
  where
    by : (b : Bool) → nat_lt (length level) 12 ≡ b → new ++ drop n (replicate 12 0) ≡ take 12 (level ++ replicate 12 0)
    by true e =
        let few = ltb-true (length level) 12 e in
        let n_is : n ≡ length level = omega (arith, least, few) in
        let m = 12 - length level in
        let rest : 12 - n ≡ m = omega (arith, n_is) in
        let whole : length level + m ≡ 12 = omega (arith, few) in
        let front : new ≡ level = is ∙ take_all n level (omega (arith, n_is)) in
        let back : drop n (replicate 12 0) ≡ take m (replicate 12 0) = drop-replicate n 12 0 ∙ ap (λ (k : ℕ). replicate k 0) rest ∙ sym (take-replicate m 12 0 (omega arith)) in
        (λ i. front i ++ back i) ∙ sym (take-append-add level (replicate 12 0) m) ∙ ap (λ (k : ℕ). take k (level ++ replicate 12 0)) whole
    by false e =
        let many = ltb-false (length level) 12 e in
        let n_is : n ≡ 12 = omega (arith, least, many) in
        let front : new ≡ take 12 level = is ∙ ap (λ (k : ℕ). take k level) n_is in
        let back : drop n (replicate 12 0) ≡ [] = ap (λ (k : ℕ). drop k (replicate 12 0)) n_is in
        (λ i. front i ++ back i) ∙ append-nil (take 12 level) ∙ sym (take-append-le 12 level (replicate 12 0) many)

data_or_none : (o : Option Witness) → option_map_or witness_bytes o [] ≡ unwrap_or (option_map witness_bytes o) []
data_or_none None = refl
data_or_none (Some w) = refl

abbrev IsHeadOf : List ℕ → Example → Type 0
IsHeadOf head e = (e.code ≡ number (take 4 head)) × (e.flags ≡ slice_index head 4) × (e.vendor ≡ head_vendor head)

corrected_with : (d : Dictionary) (level : List ℕ) (e : Example) → IsHeadOf (filled_head level) e
    → option_map_or witness_bytes e.least [] ≡ cond (nat_lt (length level) (head_length (head_vendor (filled_head level)))) [] (least_data d (head_key (filled_head level))) → plain_example e ≡ corrected d level
corrected_with d level e (code, flags, vendor) bytes = λ i. record { code = code i; flags = flags i; vendor = vendor i; bytes = bytes i }

pub corrected_whole : (d : Dictionary) (level head : List ℕ) (e : Example) (n : ℕ) (key : Key) → head ≡ filled_head level → IsHeadOf head e → n ≡ head_length e.vendor → n ≤ length level → key ≡ record { code = e.code; vendor = unwrap_or e.vendor 0 }
    → option_map witness_bytes e.least ≡ option_and_then (λ x. the_data x.format) (known d key) → plain_example e ≡ corrected d level
corrected_whole d level head e n key is (code, flags, vendor) size whole is_key least =
    let c : e.code ≡ number (take 4 (filled_head level)) = code ∙ ap (λ (h : List ℕ). number (take 4 h)) is in
    let v : e.vendor ≡ head_vendor (filled_head level) = vendor ∙ ap head_vendor is in
    let k : key ≡ head_key (filled_head level) = is_key ∙ (λ i. record { code = c i; vendor = unwrap_or (v i) 0 }) in
    let enough : head_length (head_vendor (filled_head level)) ≤ length level = omega (arith, size, whole, ap head_length v) in
    let test : nat_lt (length level) (head_length (head_vendor (filled_head level))) ≡ false = le-ltb (length level) (head_length (head_vendor (filled_head level))) enough in
    corrected_with d level e (c, flags ∙ ap (λ (h : List ℕ). slice_index h 4) is, v)
    (data_or_none e.least ∙ ap (λ (o : Option (List ℕ)). unwrap_or o []) least ∙ ap (least_data d) k ∙ ap (λ (b : Bool). cond b [] (least_data d (head_key (filled_head level)))) (sym test))
