use Rattle.std.proofs.Common.{subst, ◌∙◌}
use Rattle.dia_terms.specs.declared.Sends.{Sends}
use Rattle.dia_breaking_shortest.specs.Exact.{AreExact}
use Rattle.dia_breaking_shortest.specs.Floors.{AreFloors}
use Rattle.dia_breaking_shortest.specs.Least.{AreFillers}
use Rattle.dia_breaking_shortest.specs.Passes.{length_in}
use Rattle.dia_breaking_shortest.proofs.ExactLengths.{are_exact}
use Rattle.dia_breaking_shortest.proofs.FloorsOfLengths.{are_floors}
use Rattle.dia_breaking_shortest.proofs.finding.least_lengths.Goals as goal

pub returns-clause-floors : goal.returns-clause-floors
returns-clause-floors g c =
    let d = g.B.Book.meaning c.args.book.now in
    let least = c.in_ok-least-2.least in
    subst (λ (s : Sends). AreFloors d s (length_in d least)) (c.in_ok-least-2.ensures.sends ∙ c.in_ok-search.ensures.sends ∙ c.in_ok-least.ensures.sends)
    (are_floors d least (g.met.B.Book.sound c.args.book.now) c.in_ok-least-2.ensures.kept c.in_ok-least-2.ensures.settled)

pub returns-clause-exact : goal.returns-clause-exact
returns-clause-exact g c =
    let d = g.B.Book.meaning c.args.book.now in
    let least = c.in_ok-least-2.least in
    subst (λ (s : Sends). AreExact d s least.lengths.items) (c.in_ok-least-2.ensures.sends ∙ c.in_ok-search.ensures.sends ∙ c.in_ok-least.ensures.sends)
    (are_exact d least c.in_ok-least-2.ensures.kept c.in_ok-least-2.ensures.settled)

pub returns-clause-least : goal.returns-clause-least
returns-clause-least g c =
    let d = g.B.Book.meaning c.args.book.now in
    let least = c.in_ok-least-2.least in
    let sends = c.in_ok-least-2.ensures.sends ∙ c.in_ok-search.ensures.sends ∙ c.in_ok-least.ensures.sends in
    record {
      sends = sends;
      unknown = c.in_ok-least-2.ensures.kept.unknown;
      lengths = returns-clause-exact g c;
      fillers = subst (λ (s : Sends). AreFillers d s least.unknown least.lengths.items c.in_ok-fillers.fillers.items) sends c.in_ok-fillers.ensures;
      leaf_data = c.in_ok-leaf_data.ensures.exactly;
    }

pub returns-clause-spelled : goal.returns-clause-spelled
returns-clause-spelled g c = c.in_ok-least.ensures.spelled
