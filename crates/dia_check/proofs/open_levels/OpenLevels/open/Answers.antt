use Rattle.std.proofs.Common.{◌≡◌, ℕ, List, ◌++◌, length, ap, ◌∙◌, arith}
use Rattle.dia_check.specs.declared.open_levels.OpenLevel.{OpenLevel}
use Rattle.dia_check.specs.declared.open_levels.OpenLevels.{OpenLevels}
use Rattle.dia_check.specs.declared.open_levels.tally.Met.{Met}
use Rattle.dia_check.specs.Tallies.{unmet}
use Rattle.dia_check.proofs.KeptLevels.{opened}
use Rattle.dia_check.proofs.open_levels.OpenLevels.open.Goals as goal

pub returns : goal.returns
returns c defs definition outer level is_definition is_rules now =
    let old = c.args.self.now in
    let after : OpenLevels = record { innermost = c.new-self.result; outer = c.push.new.self; tallies = c.lay_out.new.tallies } in
    let many : c.len.result ≡ length old.tallies.items = c.len.ensures ∙ c.reserve.ensures.len ∙ old.tallies.ok.0 in
    let room = c.in_ok-reserve.ensures.ok in
    opened defs definition old after outer level c.args.rules.now c.args.def c.args.end c.min.result c.first_wanted-done.result now is_definition is_rules (omega (arith, c.min.ensures)) c.first_wanted-done.ensures
    (c.new-self.ensures ∙ ap (λ (n : ℕ). let made : OpenLevel = record { def = c.args.def; end = c.args.end; base = n; run = 0; done = c.first_wanted-done.result } in made) many)
    c.in_ok-push.ensures.items (c.lay_out.ensures.items ∙ ap (λ (t : List Met). t ++ unmet 0 c.min.result) c.reserve.ensures.items)
    (omega (arith, c.reserve.ensures.capacity, c.lay_out.ensures.capacity)) (omega (arith, room, many, c.len.ensures, c.lay_out.ensures.capacity))
