-- The data of Failed-AVP for a fault of the body, and the room that they take.
use Rattle.std.proofs.Common.{◌≡◌, ℕ, ◌+◌, ◌<◌, ◌≤◌, ◌^◌, List, length, drop, Option, Some, None, Result, Ok, Err, sym, ap, subst, ◌∙◌, arith}
use Rattle.std.specs.Prelude.{IfOk, MatchOption, option_and_then, slice_get}
use Rattle.std.specs.Option.{option_map}
use Rattle.dia_wire.specs.declared.Header.{Header}
use Rattle.dia_wire.specs.Wire.{PlainAvp}
use Rattle.dia_book.specs.declared.Class.TheVariants.{Request}
use Rattle.dia_book.specs.declared.DRule.{DRule}
use Rattle.dia_book.specs.Dictionary.{Dictionary, PlainDefinition, definitions, selected}
use Rattle.dia_check.specs.declared.Fault.{Fault}
use Rattle.dia_answer.specs.declared.around.Step.{Step}
use Rattle.dia_answer.specs.declared.example.Example.{Example}
use Rattle.dia_answer.specs.Examples.{plain_example}
use Rattle.dia_answer.specs.Failed.{PlainLevel, BeginsBy, IsAround, IsFailed, IsFailedIn, heads_length, here, innermost, request_rules, shown_bytes}
use Rattle.dia_answer.specs.Levels.{plain_way}
use Rattle.dia_answer.specs.Requests.{IsOfHeader}
use Rattle.dia_answer.proofs.Nests.{example_small, shown_within}
use Rattle.dia_answer.proofs.Ways.{around_fits}

pub of_body : {X E : Type 0} (items : X → List ℕ) (d : Dictionary) (h : Header) (request body : List ℕ) (f : Fault) (i : ℕ) (def : PlainDefinition) (rules : List DRule) → ¬ IsOfHeader f.reason → Some i ≡ selected d h.code Request h.app
    → slice_get (definitions d) i ≡ Some def → rules ≡ def.rules → body ≡ drop 20 request → (r : Result (Option X) E) → IfOk r (λ failed. IsFailedIn d rules body f (option_map items failed))
    → IfOk r (λ failed. IsFailed d h request f (option_map items failed))
of_body {X} items d h request body f i def rules other select at same is_body (Ok failed) r = record {
  of_header = λ is. absurd (other is);
  of_body = λ _.
      let has_rules : Some rules ≡ request_rules d h = ap (λ (rs : List DRule). Some rs) same ∙ ap (λ (o : Option PlainDefinition). option_map (λ c. c.rules) o) (sym at)
      ∙ ap (λ (o : Option ℕ). option_map (λ c. c.rules) (option_and_then (λ c. slice_get (definitions d) c) o)) select in
      subst (λ (o : Option (List DRule)). MatchOption o (option_map items failed ≡ None) (λ rules. IsFailedIn d rules (drop 20 request) f (option_map items failed))) has_rules
      (subst (λ (b : List ℕ). IsFailedIn d rules b f (option_map items failed)) is_body r);
}
of_body items d h request body f i def rules other select at same is_body (Err e) r = tt

-- ---- room for all

module _ (d : Dictionary) (rules : List DRule) (body : List ℕ) (f : Fault) (outer : PlainLevel) (groups whole : List Step) (around : IsAround d rules body f outer (plain_way whole)) (same : groups ≡ whole) (small : length body < 2 ^ 63) where
  heads_few : heads_length (plain_way groups) + length (here (innermost outer (plain_way whole))) ≤ length body
  heads_few = let fits = around_fits d rules body f outer (plain_way whole) around in omega (arith, fits, ap (λ (w : List Step). heads_length (plain_way w)) same)

  pub room_for_example : (e : Example) (v : PlainAvp) → v ≡ plain_example e → heads_length (plain_way groups) + length (shown_bytes (Some v)) < 2 ^ 64
  room_for_example e v is = let few = heads_few in let least = example_small e v is in omega (arith, few, least, small)

  pub room_for_none : heads_length (plain_way groups) + length (shown_bytes None) < 2 ^ 64
  room_for_none = let few = heads_few in omega (arith, few, small)

  pub room_for_first : (bytes : List ℕ) (shown : Option PlainAvp) → bytes ≡ here (innermost outer (plain_way whole)) → BeginsBy bytes shown → heads_length (plain_way groups) + length (shown_bytes shown) < 2 ^ 64
  room_for_first bytes shown is begins = let few = heads_few in let within = shown_within bytes shown begins in omega (arith, few, within, small, ap length is)
