use Rattle.std.proofs.Common.{[], ◌∷◌, None, refl, sym, ◌∙◌}
use Rattle.std.proofs.lemmas.Result.{on_ok_weaker}
use Rattle.dia_breaking.specs.Upgrades.{other_length_of, sides_of}
use Rattle.dia_upgrades.specs.Recorded.{row_of, says_of}
use Rattle.dia_upgrades.specs.UnderWay.{IsMessageIn}
use Rattle.dia_upgrades.proofs.LinesToReport.{no_message}
use Rattle.dia_upgrades.proofs.lines.see_apart.Goals as goal

pub returns : goal.returns
returns g c =
    let up = c.args.upgrade.now in
    let line = c.args.line.now in
    let says = says_of (sides_of up) (other_length_of up) c.args.breaks.now.command c.args.breaks.now.sites.items line in
    let recorded = rw c.new-words.ensures.bytes at c.in_ok-push_words.ensures.words in
    on_ok_weaker c.see_apart.result
    (λ sees. (
      row_of c.args.place says None ∷ [],
      (None, no_message (IsMessageIn up c.args.breaks.now line) line.standing, refl),
      λ asked. sees asked says (sym (c.as_str.ensures.value ∙ recorded)),
    ))
    c.see_apart.ensures
