use Rattle.std.proofs.Common.{List, ◌≡◌, length, arith, sym, ap, subst, ◌∙◌, ◌++◌, option_to_list}
use Rattle.std.specs.List.{filter_map}
use Rattle.std.proofs.lemmas.List.{take_all}
use Rattle.std.specs.Prelude.{slice_get}
use Rattle.dia_book.specs.Dictionary.{DictEntry, Dictionary}
use Rattle.dia_compat.specs.NamedCommands.{shared_pair}
use Rattle.dia_valid.proofs.Members.{there_is}
use Rattle.dia_compat.proofs.WantedDefinitions.{filter_map_more}
use Rattle.dia_compat.proofs.proposing.shared_pairs.Goals as goal

pub loop-index-preserved : goal.loop-index-preserved
loop-index-preserved g c =
    let sides = c.args.sides.now in
    let i = c.loop-index.index in
    let count = subst (λ (d : Dictionary). c.entries-index-end.result ≡ length d.entries) c.first-a.ensures.meaning c.entries-index-end.ensures.count in
    let e = there_is sides.first.entries i (omega arith) in
    let added = c.in_ok-push_if_shared.ensures e.0 (ap (slice_get sides.first.entries) c.entry_at.ensures ∙ e.1) in
    added ∙ ap (λ ps. ps ++ option_to_list (shared_pair sides.second c.args.reached.now e.0)) c.loop-index.invariant
    ∙ sym (filter_map_more (shared_pair sides.second c.args.reached.now) sides.first.entries i e.0 e.1)

pub returns : goal.returns
returns g c =
    let sides = c.args.sides.now in
    let count = subst (λ (d : Dictionary). c.entries-index-end.result ≡ length d.entries) c.first-a.ensures.meaning c.entries-index-end.ensures.count in
    c.loop-index.invariant ∙ ap (λ (es : List DictEntry). filter_map (shared_pair sides.second c.args.reached.now) es)
    (take_all c.loop-index.index sides.first.entries (omega (arith, c.loop-index-test.false, count)))
