use Rattle.std.proofs.Common.{List, ℕ, [], ◌∷◌, ◌++◌, ap, sym, subst, ◌∙◌, append_assoc, arith, string_bytes}
use Rattle.hex.specs.Hex.{encode_lower}
use Rattle.dia_mask.specs.Masked.{IsMessageMasked}
use Rattle.dia_mask_text.proofs.answering.State.mask.Goals as goal

pub returns-clause-message : goal.returns-clause-message
returns-clause-message g c =
    let text = string_bytes c.args.text.now in (
      c.mask_message.new.out.items,
      λ numbers agrees.
          let m = c.in_ok-mask_message.ensures.masked numbers agrees in
          subst (IsMessageMasked c.args.manner.now.choice numbers (g.B.Book.meaning c.args.manner.now.book.now) c.args.bytes.now)
          (sym (m.2 ∙ ap (λ (t : List ℕ). t ++ m.0) c.clear.ensures.items)) m.1,
      c.in_ok-push.ensures.bytes
          ∙ ap (λ (t : List ℕ). string_bytes c.push_str.new.self ++ t) (c.in_ok-push.ensures.ascii (omega arith))
          ∙ ap (λ (t : List ℕ). t ++ 10 ∷ [])
          (c.in_ok-push_str.ensures.bytes ∙ ap (λ (t : List ℕ). text ++ t) (c.as_str.ensures.value ∙ c.in_ok-digits.ensures))
          ∙ append_assoc text (encode_lower c.mask_message.new.out.items) (10 ∷ []),
    )
