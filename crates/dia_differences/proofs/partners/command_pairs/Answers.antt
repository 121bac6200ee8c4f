use Rattle.std.proofs.Common.{◌≡◌, ℕ, map, subst, ◌∙◌}
use Rattle.std.proofs.lemmas.Result.{IfOk-weaker}
use Rattle.dia_differences.specs.declared.partners.Pairs.{Pairs}
use Rattle.dia_differences.specs.Partners.{AreBothWays, command_partner, has_messages, has_command_name}
use Rattle.dia_differences.proofs.Pairing.{back_is, distinct_commands_of}
use Rattle.dia_differences.proofs.PartnerPlaces.{with_both}
use Rattle.dia_differences.proofs.partners.command_pairs.Goals as goal

pub returns-clause-there : goal.returns-clause-there
returns-clause-there g c = IfOk-weaker c.both_ways.result _ _ (λ pairs e. e ∙ c.in_ok-there.ensures) c.both_ways.ensures.there

pub returns-clause-back : goal.returns-clause-back
returns-clause-back g c =
    let a = g.A.Book.meaning c.args.a.now in
    let b = g.B.Book.meaning c.args.b.now in
    with_both (λ (pairs : Pairs). pairs.there.items ≡ c.in_ok-there.there.items) (λ (pairs : Pairs). AreBothWays pairs.there.items pairs.back.items c.commands.result) (λ (pairs : Pairs). pairs.back.items ≡ map (command_partner b a) b.commands) c.both_ways.result
    (λ pairs e h. back_is has_messages has_command_name a.commands b.commands (distinct_commands_of a (g.met.A.Book.sound c.args.a.now)) (distinct_commands_of b (g.met.B.Book.sound c.args.b.now)) pairs.there.items pairs.back.items (e ∙ c.in_ok-there.ensures)
    (subst (λ (count : ℕ). AreBothWays pairs.there.items pairs.back.items count) c.commands.ensures h)) c.both_ways.ensures.there c.both_ways.ensures.back
