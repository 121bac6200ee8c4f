use Rattle.std.proofs.Common.{ℕ, List, subst, length}
use Rattle.std.specs.Prelude.{◌++◌, codes}
use Rattle.std.specs.Fmt.{decimal}
use Rattle.dia_explain_places.specs.Notes.{Gains}
use Rattle.dia_explain_places.proofs.Notes.{gains_more}
use Rattle.dia_explain_upgrades.specs.Tally.{cause_word, line_word}
use Rattle.dia_explain_upgrades.proofs.tally.push_tally.Goals as goal

pub returns-clause-some : goal.returns-clause-some
returns-clause-some c = λ some.
    (let old = c.args.note.now in
    let first = c.args.texts.now.first.name.now in
    let second = c.args.texts.now.second.name.now in
    let lines = c.args.lines in
    let causes = length c.args.causes.now in
    let a = decimal lines in
    let b = a ++ line_word lines in
    let d = b ++ decimal causes in
    let e = d ++ cause_word causes in
    let f = e ++ codes ": what " in
    let g = f ++ first in
    let h = g ++ codes " sends and " in
    let i = h ++ second in
    let first_word = subst (λ (text : List ℕ). Gains c.put_number.new.self c.put.new.self text) c.line_word.ensures c.put.ensures in
    let second_word = subst (λ (text : List ℕ). Gains c.put_number-2.new.self c.put-2.new.self text) c.cause_word.ensures c.put-2.ensures in
    let to_b = gains_more old c.put_number.new.self c.put.new.self a (line_word lines) c.put_number.ensures first_word in
    let to_d = gains_more old c.put.new.self c.put_number-2.new.self b (decimal causes) to_b c.put_number-2.ensures in
    let to_e = gains_more old c.put_number-2.new.self c.put-2.new.self d (cause_word causes) to_d second_word in
    let to_f = gains_more old c.put-2.new.self c.put-3.new.self e (codes ": what ") to_e c.put-3.ensures in
    let to_g = gains_more old c.put-3.new.self c.put-4.new.self f first to_f c.put-4.ensures in
    let to_h = gains_more old c.put-4.new.self c.put-5.new.self g (codes " sends and ") to_g c.put-5.ensures in
    let to_i = gains_more old c.put-5.new.self c.put-6.new.self h second to_h c.put-6.ensures in
    gains_more old c.put-6.new.self c.put-7.new.self i (codes " accepts\n") to_i c.put-7.ensures)
