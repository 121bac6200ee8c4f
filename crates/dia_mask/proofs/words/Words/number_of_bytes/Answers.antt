use Rattle.std.proofs.Common.{refl, sym, inl, rules}
use Rattle.std.proofs.lemmas.Result.{IfOk-weaker}
use Rattle.dia_mask.proofs.Numbers.{bytes_put}
use Rattle.dia_mask.proofs.words.Words.number_of_bytes.Goals as goal

pub returns-in-Some : goal.returns-in-Some
returns-in-Some c =
    IfOk-weaker c.number.result _ _ (λ n step. bytes_put c.args.self.now _ c.args.word.now n c.in-Some.numbered.now c.number.new.self step refl (inl (sym c.in-Some.ensures.value))
    ((c.get_mut.follows.holds c.number.new.self).3 (search rules))) c.number.ensures
