use Rattle.std.proofs.Common.{List, ℕ, Some, bytes_eq, refl, subst, inr, string_bytes, string_eq}
use Rattle.std.specs.HashMap.{UpdatesBy}
use Rattle.dia_mask.proofs.Numbers.{text_put}
use Rattle.dia_mask.proofs.words.Words.begin_texts.Goals as goal

pub returns : goal.returns
returns c =
    let old = c.args.self.now in
    text_put old (record { texts = c.insert.new.self; bytes = old.bytes }) c.args.word.now c.in_ok-number.number c.new-numbered.result c.number.new.self c.in_ok-number.ensures
    c.args.pattern.now refl (inr (c.requires, c.new-numbered.ensures))
    (subst (λ (l : List ℕ). UpdatesBy string_eq (λ k. bytes_eq l (string_bytes k)) old.texts c.insert.new.self (Some c.number.new.self)) c.in_ok-key.ensures.ok c.in_ok-insert.ensures.updates)
