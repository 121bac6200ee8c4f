use Rattle.std.proofs.Common.{ap, sym, ◌∙◌, ◌++◌, ℕ, List, refl}
use Rattle.std.specs.List.{list_any}
use Rattle.dia_accepted.specs.Accepted.{accepts}
use Rattle.dia_upgrades.specs.Rows.{recorded_of, tolds}
use Rattle.dia_upgrades.proofs.LinesToReport.{judged_more}
use Rattle.dia_upgrades.proofs.Rows.{come_seen}
use Rattle.dia_upgrades.proofs.seen.Seen.judge.Goals as goal

pub returns-clause-accepted : goal.returns-clause-accepted
returns-clause-accepted c = λ list recorded apart are. c.in_ok-known.ensures.accepted list (tolds (recorded ++ apart)) are.accepting

pub returns-clause-judged : goal.returns-clause-judged
returns-clause-judged c = λ list recorded apart t words are.
    let known = ap (λ (w : List ℕ). list_any (accepts w) list) words ∙ sym (c.in_ok-known.ensures.accepted list (tolds (recorded ++ apart)) are.accepting) in
    judged_more list recorded apart t c.args.self.now _ c.in_ok-known.known (come_seen _ list (recorded ++ apart) t (c.in_ok-known.ensures.come list (tolds (recorded ++ apart)) (recorded_of t) words are.accepting)) known c.lines_after-self.ensures c.lines_after-self-2.ensures refl are
