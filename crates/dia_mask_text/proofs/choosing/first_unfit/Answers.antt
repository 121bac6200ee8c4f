use Rattle.std.proofs.Common.{Bor, List, ℕ, [], get_or, ap, sym, ◌∙◌}
use Rattle.std.specs.Option.{option_map}
use Rattle.dia_mask_text.specs.Names.{fault_in}
use Rattle.dia_mask_text.proofs.Naming.{first_here, none_more}
use Rattle.dia_mask_text.proofs.choosing.first_unfit.Goals as goal

pub returns-in-Some : goal.returns-in-Some
returns-in-Some c = λ d known.
    let none : Bor (List ℕ) = record { ref_ptr = (0, 0); now = [] } in
    let name : List ℕ = (get_or c.args.names.now c.loop-name.name-index none).now in
    sym (first_here (λ (x : Bor (List ℕ)). x.now) (λ (q : List ℕ). option_map (λ why. (q, why)) (fault_in d q)) c.args.names.now c.loop-name.name-index none (name, c.in-Some.why) c.loop-name-test.true
    (c.loop-name.invariant d known) (ap (option_map (λ why. (name, why))) (sym (c.fault_in.ensures d known) ∙ c.in-Some.is)))

pub loop-name-preserved : goal.loop-name-preserved
loop-name-preserved c = λ d known.
    let none : Bor (List ℕ) = record { ref_ptr = (0, 0); now = [] } in
    let name : List ℕ = (get_or c.args.names.now c.loop-name.name-index none).now in
    none_more (λ (x : Bor (List ℕ)). x.now) (λ (q : List ℕ). option_map (λ why. (q, why)) (fault_in d q)) c.args.names.now c.loop-name.name-index none c.loop-name-test.true (c.loop-name.invariant d known)
    (ap (option_map (λ why. (name, why))) (sym (c.fault_in.ensures d known) ∙ c.in_default.is))
