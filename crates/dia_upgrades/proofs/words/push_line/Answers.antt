use Rattle.std.proofs.Common.{◌∙◌, ◌++◌, List, ℕ, ap, sym}
use Rattle.std.specs.Prelude.{string_bytes}
use Rattle.std.proofs.lemmas.List.{append-nil}
use Rattle.std.proofs.lemmas.Result.{on_ok_weaker}
use Rattle.dia_run.specs.Texts.{line}
use Rattle.dia_upgrades.proofs.Endings.{two_lines}
use Rattle.dia_upgrades.proofs.words.push_line.Goals as goal

pub returns-in-Some : goal.returns-in-Some
returns-in-Some c =
    on_ok_weaker c.write.result (λ e. rw c.in-Some.is (e ∙ ap (λ (t : List ℕ). string_bytes c.args.text.now ++ t) (two_lines c.args.words.now c.in-Some.digits.now))) c.write.ensures.bytes

pub returns-in-None : goal.returns-in-None
returns-in-None c =
    on_ok_weaker c.write-in-None.result (λ e. rw c.in-None.is (e ∙ ap (λ (t : List ℕ). string_bytes c.args.text.now ++ t) (sym (append-nil (line c.args.words.now))))) c.write-in-None.ensures.bytes
