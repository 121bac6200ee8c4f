use Rattle.std.proofs.Common.{subst}
use Rattle.dia_breaking_avps.specs.Breaks.{IsDataBreak}
use Rattle.dia_breaking.specs.Upgrades.{sides_of}
use Rattle.dia_breaking.proofs.FormatData.{eight_records, tried_records}
use Rattle.dia_breaking.proofs.upgrade.Upgrade.data_cause.Goals as goal

pub returns-in-EightBytes-clause-formats : goal.returns-in-EightBytes-clause-formats
returns-in-EightBytes-clause-formats g c content of =
    let s = sides_of c.args.self.now in
    let own = c.args.own.now in
    let lengths = c.args.self.now.lengths in
    eight_records s.sender s.receiver s.sends s.unknown lengths.least lengths.entries.items own c.eight_cause.result c.eight_cause.ensures.cause
    (subst (IsDataBreak s.sender s.receiver s.sends s.unknown own.key) c.in-EightBytes.is content) of

pub returns-in_ok-cause-in-Undecided-clause-formats : goal.returns-in_ok-cause-in-Undecided-clause-formats
returns-in_ok-cause-in-Undecided-clause-formats g c content of =
    let s = sides_of c.args.self.now in
    let own = c.args.own.now in
    let lengths = c.args.self.now.lengths in
    tried_records s.sender s.receiver s.sends s.unknown lengths.least lengths.entries.items own c.in_ok-cause-in-Undecided.cause c.in_ok-cause-in-Undecided.ensures.exact
    (subst (IsDataBreak s.sender s.receiver s.sends s.unknown own.key) c.in-Undecided.is content) of
