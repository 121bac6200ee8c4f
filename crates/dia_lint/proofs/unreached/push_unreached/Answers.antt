use Rattle.std.proofs.Common.{◌≡◌}
use Rattle.dia_terms.specs.declared.Sends.TheVariants.{Filled, Listed}
use Rattle.dia_lint.specs.Ways.{side_of}
use Rattle.dia_lint.proofs.ExactLists.{with_commands}
use Rattle.dia_lint.proofs.unreached.push_unreached.Goals as goal

pub reached_by-requires : goal.reached_by-requires
reached_by-requires g c = λ e. absurd (let bad : Listed ≡ Filled = e in cc)

pub returns : goal.returns
returns g c =
    with_commands (side_of g.B.Book.meaning c.args.lengths.now) c.args.reached.now c.in_ok-listed.listed c.args.found.now.items c.push_avps.new.found.items c.push_avps.result c.in_ok-listed.ensures
    c.push_avps.ensures
