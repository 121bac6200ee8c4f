use Rattle.std.proofs.Common.{◌++◌, ℕ, ap, ◌∙◌, encode_utf8, string_bytes}
use Rattle.dia_mask.proofs.Characters.{word_extended}
use Rattle.dia_mask.proofs.texts.Masking.extend_word.Goals as goal

pub returns-clause-word : goal.returns-clause-word
returns-clause-word c =
    let old = c.args.self.now in
    λ word w. word_extended old (record { words = old.words; word = c.push-2.new.self; pattern = c.push-3.new.self; kinds = c.push.new.self; characters = old.characters; masked = old.masked; «data» = old.data })
    word c.args.character c.args.kind c.requires c.in_ok-push.ensures.items c.in_ok-push-2.ensures.bytes
    (c.in_ok-push-3.ensures.bytes ∙ ap (λ (x : ℕ). string_bytes old.pattern ++ encode_utf8 x) c.character.ensures) w
