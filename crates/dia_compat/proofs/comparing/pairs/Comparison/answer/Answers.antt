use Rattle.std.proofs.Common.{map, ap, ◌∙◌}
use Rattle.dia_compat.specs.TableText.{PlainTable, plain_pair}
use Rattle.dia_compat.specs.Sides.{Compared}
use Rattle.dia_compat.proofs.FailedPairs.{recorded_command, recorded_avp, recorded_closed}
use Rattle.dia_compat.proofs.comparing.pairs.Comparison.answer.Goals as goal

pub returns-in-Some : goal.returns-in-Some
returns-in-Some g c =
    let s = c.args.self.now.sides in
    let table = c.table-table.ensures ∙ ap (λ (all : Compared). all.table) c.self.view_is in
    recorded_command s.first s.second s.unknown c.args.self.now.table (map plain_pair c.deref.result.now) c.in_ok-commands.commands c.in-Some.failure
    (ap (map plain_pair) c.deref.ensures.value ∙ ap (λ (t : PlainTable). t.commands) table) c.in-Some.is c.in_ok-commands.ensures

pub returns-in-Some-avps : goal.returns-in-Some-avps
returns-in-Some-avps g c =
    let s = c.args.self.now.sides in
    let table = c.table-table.ensures ∙ ap (λ (all : Compared). all.table) c.self.view_is in
    recorded_avp s.first s.second s.unknown c.args.self.now.table (map plain_pair c.deref.result.now)
    (map plain_pair c.deref-in-None.result.now) c.in_ok-commands.commands c.in_ok-avps-in-None.avps c.in-Some-avps.failure
    (ap (map plain_pair) c.deref.ensures.value ∙ ap (λ (t : PlainTable). t.commands) table)
    (ap (map plain_pair) c.deref-in-None.ensures.value ∙ ap (λ (t : PlainTable). t.avps) table) c.in-None.is c.in-Some-avps.is c.in_ok-commands.ensures c.in_ok-avps-in-None.ensures

pub returns-in-None-avps : goal.returns-in-None-avps
returns-in-None-avps g c =
    let s = c.args.self.now.sides in
    let table = c.table-table.ensures ∙ ap (λ (all : Compared). all.table) c.self.view_is in
    recorded_closed s.first s.second s.unknown c.args.self.now.table (map plain_pair c.deref.result.now)
    (map plain_pair c.deref-in-None.result.now) c.in_ok-commands.commands c.in_ok-avps-in-None.avps
    (ap (map plain_pair) c.deref.ensures.value ∙ ap (λ (t : PlainTable). t.commands) table)
    (ap (map plain_pair) c.deref-in-None.ensures.value ∙ ap (λ (t : PlainTable). t.avps) table) c.in-None.is c.in-None-avps.is c.in_ok-commands.ensures c.in_ok-avps-in-None.ensures
