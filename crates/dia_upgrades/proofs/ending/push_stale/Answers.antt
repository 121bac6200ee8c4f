use Rattle.std.proofs.Common.{List, map, subst, sym, ◌++◌, ◌≡◌}
use Rattle.std.specs.Prelude.{string_bytes}
use Rattle.std.proofs.lemmas.List.{append-nil, take_all}
use Rattle.dia_accepted.specs.Accepted.{plain_entry}
use Rattle.dia_accepted.specs.declared.list.Entry.{Entry}
use Rattle.dia_upgrades.specs.Writing.{stale_text}
use Rattle.dia_upgrades.proofs.Endings.{stale_more}
use Rattle.dia_upgrades.proofs.ending.push_stale.Goals as goal

pub loop-entry-init : goal.loop-entry-init
loop-entry-init g c = sym (append-nil (string_bytes c.args.text.now))

pub loop-entry-preserved : goal.loop-entry-preserved
loop-entry-preserved g c =
    let w = g.W.LineWriter.writes c.args.writer.now in
    stale_more w.of_stale c.args.entries.now c.loop-entry.entry-index c.entry-item.result c.loop-entry-test.true c.entry-item.is _ _ _ c.loop-entry.invariant c.in_ok-write_stale.ensures

pub returns : goal.returns
returns g c =
    subst (λ (es : List Entry). string_bytes c.loop-entry.text ≡ string_bytes c.args.text.now ++ stale_text (g.W.LineWriter.writes c.args.writer.now) (map plain_entry es))
    (take_all c.loop-entry.entry-index c.args.entries.now c.loop-entry-test.false) c.loop-entry.invariant
