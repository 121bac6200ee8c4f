use Rattle.std.proofs.Common.{[], ◌∷◌, ◌++◌, Option, sym, ap, ◌∙◌}
use Rattle.std.specs.Prelude.{is_some, if◌then◌else◌}
use Rattle.dia_dict.proofs.RepeatsRecorded.{insert-fresh}
use Rattle.dia_dict.proofs.resolving.noting.note.Goals as goal

pub returns-in_ok-insert-in-None-clause-kept : goal.returns-in_ok-insert-in-None-clause-kept
returns-in_ok-insert-in-None-clause-kept g c =
    let entries = c.args.kept.now.entries in
    let none = sym c.in-None.ensures.value in
    c.in_ok-insert-in-None.ensures.entries ∙ insert-fresh g.K.PartialEq.eq c.args.key c.args.value entries none
    ∙ sym (ap (λ (o : Option g.row.V.Denot). if is_some o then entries else entries ++ (c.args.key, c.args.value) ∷ []) none)
