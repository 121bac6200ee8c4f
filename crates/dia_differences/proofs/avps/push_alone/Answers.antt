use Rattle.std.proofs.Common.{length}
use Rattle.std.proofs.lemmas.Result.{on_ok_weaker}
use Rattle.dia_differences.specs.declared.owner.Owner.TheVariants as owners
use Rattle.dia_differences.specs.Owners.{rules_of}
use Rattle.dia_differences.specs.declared.lines.What.TheVariants as kinds
use Rattle.dia_differences.specs.Lines.{AllRules, Only}
use Rattle.dia_differences.proofs.Chains.{adds_only, adds_then}
use Rattle.dia_differences.proofs.avps.push_alone.Goals as goal

pub returns : goal.returns
returns g c =
    let w = kinds.Avp c.args.side c.args.index in
    let own = owners.Avp c.args.index in
    on_ok_weaker c.push_all_rules.result
    (adds_then (Only w) (AllRules c.args.side own (length (rules_of (g.D.Book.meaning c.args.book.now) own))) c.args.lines.now.items c.push_line.new.lines.items c.push_all_rules.new.lines.items
    (adds_only w c.args.lines.now.items c.push_line.new.lines.items c.in_ok-push_line.ensures))
    c.push_all_rules.ensures
