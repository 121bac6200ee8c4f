use Rattle.std.proofs.Common.{List, Option, false, ap, ◌∙◌, arith}
use Rattle.std.specs.Prelude.{◌||◌}
use Rattle.std.specs.HashSet.{contains}
use Rattle.std.specs.List.{list_any}
use Rattle.std.specs.Option.{option_map_or}
use Rattle.std.proofs.lemmas.List.{take_all}
use Rattle.dia_wire.specs.declared.Key.{Key}
use Rattle.dia_book.specs.Keys.{same_key}
use Rattle.dia_breaking.specs.declared.line.Line.{Line}
use Rattle.dia_diff.specs.Ignored.{broken_key, is_broken}
use Rattle.dia_diff.proofs.Tests.{any_next_of}
use Rattle.dia_diff.proofs.ignored.broken_keys.Goals as goal

pub loop-line-init : goal.loop-line-init
loop-line-init c = λ q. ap (list_any (same_key q)) c.new-found.ensures.empty

pub loop-line-preserved : goal.loop-line-preserved
loop-line-preserved c = λ q.
    any_next_of (λ (line : Line). option_map_or (λ broken. same_key broken q) (broken_key line.cause) false) c.args.lines.now c.loop-line.line-index c.line-item.result false (contains same_key c.loop-line.found q)
    (contains same_key c.put_some.new.set q) (omega arith) c.line-item.is
    (c.in_ok-put_some.ensures q ∙ ap (λ (o : Option Key). contains same_key c.loop-line.found q || option_map_or (λ k. same_key k q) o false) c.broken_key.ensures) (c.loop-line.invariant q)

pub returns : goal.returns
returns c = λ q. c.loop-line.invariant q ∙ ap (λ (ls : List Line). is_broken ls q) (take_all c.loop-line.line-index c.args.lines.now (omega arith))
