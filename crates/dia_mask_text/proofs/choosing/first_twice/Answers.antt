use Rattle.std.proofs.Common.{Bor, List, ℕ, [], get_or, Bool, Some, None, if◌then◌else◌, ap, sym, ◌∙◌}
use Rattle.std.specs.Option.{option_map}
use Rattle.dia_mask_text.specs.declared.choosing.Why.TheVariants.{Twice}
use Rattle.dia_mask_text.specs.Names.{fault_by}
use Rattle.dia_mask_text.proofs.Naming.{first_here, none_more}
use Rattle.dia_mask_text.proofs.choosing.first_twice.Goals as goal

pub returns-then-has : goal.returns-then-has
returns-then-has c = λ list are.
    let none : Bor (List ℕ) = record { ref_ptr = (0, 0); now = [] } in
    let name : List ℕ = (get_or c.args.names.now c.loop-name.name-index none).now in
    sym (first_here (λ (x : Bor (List ℕ)). x.now) (λ (q : List ℕ). option_map (λ why. (q, why)) (fault_by list q)) c.args.names.now c.loop-name.name-index none (name, Twice) c.loop-name-test.true
    (c.loop-name.invariant list are)
    (ap (λ (b : Bool). option_map (λ why. (name, why)) (if b then Some Twice else None)) (sym (are.is_set name) ∙ sym c.has.ensures ∙ c.if-has.true)))

pub loop-name-preserved : goal.loop-name-preserved
loop-name-preserved c = λ list are.
    let none : Bor (List ℕ) = record { ref_ptr = (0, 0); now = [] } in
    let name : List ℕ = (get_or c.args.names.now c.loop-name.name-index none).now in
    none_more (λ (x : Bor (List ℕ)). x.now) (λ (q : List ℕ). option_map (λ why. (q, why)) (fault_by list q)) c.args.names.now c.loop-name.name-index none c.loop-name-test.true
    (c.loop-name.invariant list are)
    (ap (λ (b : Bool). option_map (λ why. (name, why)) (if b then Some Twice else None)) (sym (are.is_set name) ∙ sym c.has.ensures ∙ c.if-has.false))
