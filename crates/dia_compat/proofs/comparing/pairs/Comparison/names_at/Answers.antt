use Rattle.std.proofs.Common.{List, sym, ap, ◌∙◌}
use Rattle.std.specs.Prelude.{String, slice_get}
use Rattle.std.specs.Global.{Global}
use Rattle.std.specs.Option.{option_map}
use Rattle.std.proofs.lemmas.Option.{slice_get-map}
use Rattle.dia_compat.specs.declared.checking.PairKind.{PairKind}
use Rattle.dia_compat.specs.TableText.{PlainTable, plain_pair}
use Rattle.dia_compat.specs.Sides.{Compared}
use Rattle.dia_compat.specs.Failings.{pairs_in}
use Rattle.dia_compat.proofs.comparing.pairs.Comparison.names_at.Goals as goal

pub returns-in-Command : goal.returns-in-Command
returns-in-Command g c =
    let i = c.args.pair in
    let t = c.table-table.result.now in
    let table = c.table-table.ensures ∙ ap (λ (all : Compared). all.table) c.self.view_is in
    c.names_of.ensures ∙ ap (λ (ps : List (String Global × String Global)). option_map plain_pair (slice_get ps i)) c.deref.ensures.value
    ∙ sym (slice_get-map plain_pair t.commands.items i) ∙ ap (λ (z : PlainTable). slice_get z.commands i) table ∙ ap (λ (k : PairKind). slice_get (pairs_in k c.args.self.now) i) (sym c.in-Command.is)

pub returns-in-Avp : goal.returns-in-Avp
returns-in-Avp g c =
    let i = c.args.pair in
    let t = c.table-table.result.now in
    let table = c.table-table.ensures ∙ ap (λ (all : Compared). all.table) c.self.view_is in
    c.names_of-in-Avp.ensures ∙ ap (λ (ps : List (String Global × String Global)). option_map plain_pair (slice_get ps i)) c.deref-in-Avp.ensures.value
    ∙ sym (slice_get-map plain_pair t.avps.items i) ∙ ap (λ (z : PlainTable). slice_get z.avps i) table ∙ ap (λ (k : PairKind). slice_get (pairs_in k c.args.self.now) i) (sym c.in-Avp.is)
