use Rattle.std.specs.Prelude.{string_bytes}
use Rattle.std.proofs.lemmas.Result.{IfOk-weaker}
use Rattle.dia_show.specs.Manners.{plain_manner_of}
use Rattle.dia_json.proofs.Objects.{named_group, named_leaf, named_unknown}
use Rattle.dia_json.proofs.listing.named.Goals as goal

pub returns-in-None : goal.returns-in-None
returns-in-None c =
    rw c.in-None.is
    (IfOk-weaker c.unnamed.result _ _ (λ text is. named_unknown (plain_manner_of c.args.manner.now) c.args.bytes.now (string_bytes text) is) c.unnamed.ensures)

pub returns-in-Grouped : goal.returns-in-Grouped
returns-in-Grouped c =
    rw c.in-Some.is
    (IfOk-weaker c.named_group.result _ _
    (λ text is. named_group (plain_manner_of c.args.manner.now) c.in-Some.known.name.now c.in-Some.known.format.now c.args.bytes.now (string_bytes text) c.in-Grouped.is is) c.named_group.ensures)

pub returns-in_default : goal.returns-in_default
returns-in_default c =
    rw c.in-Some.is
    (IfOk-weaker c.named_leaf.result _ _
    (λ text is. named_leaf (plain_manner_of c.args.manner.now) c.in-Some.known.name.now c.in-Some.known.format.now c.args.bytes.now (string_bytes text) c.in_default.not-Grouped is) c.named_leaf.ensures)
