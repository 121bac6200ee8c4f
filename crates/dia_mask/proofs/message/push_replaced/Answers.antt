use Rattle.std.proofs.Common.{List, ℕ, ◌++◌, Option, ap, subst, ◌∙◌}
use Rattle.std.proofs.lemmas.Result.{on_ok_weaker}
use Rattle.dia_data.specs.Plain.{PlainFormat}
use Rattle.dia_mask.specs.Masked.{zeros}
use Rattle.dia_mask.specs.Replaced.{IsNewData}
use Rattle.dia_mask.proofs.message.push_replaced.Goals as goal

pub returns-clause-put : goal.returns-clause-put
returns-clause-put g c =
    on_ok_weaker c.push_many.result (λ added numbers agrees. (
      c.replace.new.self.data.items,
      subst (λ (f : Option PlainFormat). IsNewData numbers f c.args.avp.now.bytes.now c.replace.new.self.data.items) c.format_of.ensures (c.in_ok-replace.ensures.replaced numbers agrees),
      added ∙ ap (λ (t : List ℕ). t ++ zeros c.args.padding)
          (c.in_ok-extend_from_slice.ensures.items ∙ ap (λ (t : List ℕ). c.args.out.now.items ++ t) c.deref.ensures.value),
    )) c.push_many.ensures
