use Rattle.std.proofs.Common.{refl, sym, ◌∙◌}
use Rattle.dia_mask.proofs.Characters.{other_added}
use Rattle.dia_mask.proofs.texts.Masking.push_character.Goals as goal

pub returns-in_ok-push-in-None-clause-text : goal.returns-in_ok-push-in-None-clause-text
returns-in_ok-push-in-None-clause-text c =
    let mid = c.end_word.new.self in
    λ numbers before whole agrees had. other_added c.args.self.now mid
    (record { words = mid.words; word = mid.word; pattern = mid.pattern; kinds = mid.kinds; characters = mid.characters; masked = c.push.new.self; «data» = mid.data })
    c.args.character (sym c.of.ensures ∙ c.in-None.is) c.in_ok-end_word-in-None.ensures refl refl refl refl c.in_ok-push-in-None.ensures.bytes numbers before whole agrees had
