use Rattle.std.proofs.Common.{List, ap, arith, ◌∙◌}
use Rattle.std.specs.List.{filter_map}
use Rattle.std.proofs.lemmas.List.{take_all}
use Rattle.dia_compat.specs.Failings.{unless}
use Rattle.dia_wire.specs.declared.Key.{Key}
use Rattle.dia_valid.specs.Valid.{is_listed}
use Rattle.dia_compat.specs.declared.reasons.Failing.TheVariants.{LetIn}
use Rattle.dia_compat.proofs.ListsOfFailings.{failing_more}
use Rattle.dia_compat.proofs.comparing.failing_wildcards.fails_known.Goals as goal

pub loop-key-preserved : goal.loop-key-preserved
loop-key-preserved g c =
    failing_more (is_listed c.args.a.now) (λ (key : Key). LetIn c.args.place key) c.args.keys.now c.loop-key.key-index _ c.loop-key.all.items c.push_unless.new.all.items c.lists.result
    c.loop-key-test.true c.lists.ensures c.loop-key.invariant c.in_ok-push_unless.ensures

pub returns : goal.returns
returns g c =
    c.loop-key.invariant ∙ ap (λ (keys : List Key). filter_map (λ (key : Key). unless (is_listed c.args.a.now key) (LetIn c.args.place key)) keys)
    (take_all c.loop-key.key-index c.args.keys.now (omega (arith, c.loop-key-test.false)))
