use Rattle.std.proofs.Common.{[], ◌∷◌, codes}
use Rattle.std.proofs.lemmas.Result.{on_ok_weaker}
use Rattle.std.specs.Fmt.{decimal}
use Rattle.dia_text.specs.LineTexts.{flags_words, app_words}
use Rattle.dia_text.proofs.Pushed.{fields_pushed}
use Rattle.dia_text.proofs.header_lines.push_fields.Goals as goal

pub returns : goal.returns
returns c =
    let h = c.args.header.now in
    let s = c.args.start.now in
    on_ok_weaker c.push_number-2.result
    (λ e. fields_pushed _ _ _ _ _ (flags_words s.flags h.flags) (app_words s.app h.app) (codes "hop" ∷ decimal h.hop ∷ []) (codes "end" ∷ decimal h.e2e ∷ []) c.in_ok-push_flags.ensures
    c.in_ok-push_app.ensures c.in_ok-push_number.ensures e) c.push_number-2.ensures
