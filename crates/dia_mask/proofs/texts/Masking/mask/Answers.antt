use Rattle.std.proofs.Common.{string_bytes, refl, sym, ◌∙◌, map-id}
use Rattle.std.proofs.lemmas.Iterator.{YieldsList-from_chars}
use Rattle.std.proofs.lemmas.Iterator.Consumers.{YieldsList-end}
use Rattle.std.proofs.lemmas.Result.{on_ok_weaker}
use Rattle.dia_mask.proofs.Characters.{agrees_before, all_masked, goes_on_twice, no_more, text_begun}
use Rattle.dia_mask.proofs.texts.Masking.mask.Goals as goal

pub loop-character-init : goal.loop-character-init
loop-character-init c = ((no_more c.args.self.now.words, refl), λ numbers agrees. text_begun c.args.self.now numbers c.requires.none)

pub loop-character-preserved : goal.loop-character-preserved
loop-character-preserved c =
    let old = c.loop-character.self in
    let new = c.push_character.new.self in
    let e = c.in_ok-push_character.ensures in (
      goes_on_twice c.args.self.now old new c.loop-character.invariant.0 e.goes_on,
      λ numbers agrees. e.text numbers (string_bytes c.args.self.now.masked) c.loop-character.yielded agrees
          (c.loop-character.invariant.1 numbers (agrees_before old.words new.words numbers e.goes_on.0 agrees)),
    )

pub returns-clause-goes_on : goal.returns-clause-goes_on
returns-clause-goes_on c =
    on_ok_weaker c.end_word.result (λ ends. goes_on_twice c.args.self.now c.loop-character.self c.end_word.new.self c.loop-character.invariant.0 ends.goes_on) c.end_word.ensures

pub returns-clause-text : goal.returns-clause-text
returns-clause-text c =
    let end = YieldsList-end (YieldsList-from_chars c.args.text.now c.utf8.text cc) c.loop-character.yielded _ c.loop-character.yielded_by _ _ c.in-None.is c.next.ensures.steps in
    let old = c.loop-character.self in
    let new = c.end_word.new.self in
    on_ok_weaker c.end_word.result (λ ends numbers agrees. all_masked old new numbers (string_bytes c.args.self.now.masked) c.loop-character.yielded c.args.text.now
    (c.loop-character.invariant.1 numbers (agrees_before old.words new.words numbers ends.goes_on.0 agrees)) ends agrees (sym (map-id c.loop-character.yielded) ∙ end.0)) c.end_word.ensures
