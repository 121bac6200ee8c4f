use Rattle.std.proofs.Common.{subst, ℕ, List, map, arith}
use Rattle.std.specs.List.{filter_map}
use Rattle.std.proofs.lemmas.List.{take_all}
use Rattle.std.specs.Borrow.{Bor}
use Rattle.dia_compat.specs.WantedNames.{AddsPairs, wanted_name}
use Rattle.dia_book.specs.Dictionary.{plain_definition}
use Rattle.dia_book.specs.declared.Definition.{Definition}
use Rattle.dia_compat.specs.TableText.{plain_pair}
use Rattle.dia_compat.proofs.WantedDefinitions.{pairs_more}
use Rattle.dia_compat.proofs.CommandsBeside.{item_there}
use Rattle.dia_compat.proofs.proposing.wanting.push_all_wanted.Goals as goal

pub loop-other-preserved : goal.loop-other-preserved
loop-other-preserved g c =
    let others = c.args.others.now in
    let i = c.loop-other.other-index in
    pairs_more (λ (d : Bor Definition). wanted_name c.args.sides.now c.args.command.now.head (plain_definition d.now)) (λ (name : List ℕ). ((plain_definition c.args.command.now).name, name))
    (map plain_pair c.args.pairs.now.items) (map plain_pair c.loop-other.pairs.items) (map plain_pair c.push_if_wanted.new.pairs.items) others i c.other-item.result
    (item_there others i c.other-item.result (omega arith) c.other-item.is) c.loop-other.invariant c.in_ok-push_if_wanted.ensures

pub returns : goal.returns
returns g c =
    let others = c.args.others.now in
    let wanted = λ (d : Bor Definition). wanted_name c.args.sides.now c.args.command.now.head (plain_definition d.now) in
    subst (λ (ds : List (Bor Definition)). AddsPairs (plain_definition c.args.command.now) (filter_map wanted ds) c.args.pairs.now.items c.loop-other.pairs.items)
    (take_all c.loop-other.other-index others (omega (arith, c.loop-other-test.false))) c.loop-other.invariant
