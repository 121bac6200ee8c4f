use Rattle.std.proofs.Common.{◌≡◌, ◌+◌, ℕ, Bool, List, Option, Some, None, length, refl, sym, ap, ◌∙◌}
use Rattle.std.specs.Option.{option_map_or}
use Rattle.dia_book.specs.Dictionary.{Dictionary, groups}
use Rattle.dia_compat.specs.declared.checking.Test.{Test}
use Rattle.dia_compat.specs.declared.checking.Test.TheVariants.{N10}
use Rattle.dia_compat.specs.Sides.{Compared}
use Rattle.dia_compat.specs.PairTests.{NamePair, command_named, failed_commands}
use Rattle.dia_compat.specs.FirstFailures.{IsLookedUp, failed_command}
use Rattle.dia_compat.proofs.comparing.pairs.Comparison.failed_command.Goals as goal

-- by what the two names name
abbrev by_places : Compared → Option ℕ → Option ℕ → Option Test
by_places c first second =
    option_map_or (λ (i : ℕ). option_map_or (λ (j : ℕ). failed_commands c (length (groups c.sides.first) + i) (length (groups c.sides.second) + j)) second (Some N10)) first (Some N10)

looked_up : (all inside : Compared) (a b : Dictionary) (selected : List Bool) (p : NamePair) (first second : Option ℕ) → inside ≡ all → IsLookedUp inside a b selected
    → first ≡ command_named a p.0 → second ≡ command_named b p.1 → by_places inside first second ≡ failed_command all p
looked_up all inside a b selected p first second same so at_a at_b =
    ap (λ (o : Option ℕ). by_places inside o second) (at_a ∙ ap (λ (d : Dictionary). command_named d p.0) so.first_is)
    ∙ ap (by_places inside (command_named inside.sides.first p.0)) (at_b ∙ ap (λ (d : Dictionary). command_named d p.1) so.second_is)
    ∙ ap (λ (c : Compared). failed_command c p) same

pub returns-in-Some-command : goal.returns-in-Some-command
returns-in-Some-command g c =
    c.failed_commands.ensures
    ∙ looked_up c.args.self.now c.self.inside.cover c.self.inside.a c.self.inside.b c.self.inside.selected.items (c.args.first.now, c.args.second.now) (Some c.in-Some.first) (Some c.in-Some-command.second)
    c.self.view_is c.self.invariant (sym c.in-Some.is ∙ c.command.ensures) (sym c.in-Some-command.is ∙ c.command-in-Some.ensures)

pub returns-in-None : goal.returns-in-None
returns-in-None g c =
    looked_up c.args.self.now c.self.inside.cover c.self.inside.a c.self.inside.b c.self.inside.selected.items (c.args.first.now, c.args.second.now) None (command_named c.self.inside.b c.args.second.now)
    c.self.view_is c.self.invariant (sym c.in-None.is ∙ c.command.ensures) refl

pub returns-in-None-command : goal.returns-in-None-command
returns-in-None-command g c =
    looked_up c.args.self.now c.self.inside.cover c.self.inside.a c.self.inside.b c.self.inside.selected.items (c.args.first.now, c.args.second.now) (Some c.in-Some.first) None
    c.self.view_is c.self.invariant (sym c.in-Some.is ∙ c.command.ensures) (sym c.in-None-command.is ∙ c.command-in-Some.ensures)
