use Rattle.std.proofs.Common.{ℕ, List, [], ◌∷◌, ◌++◌, ap, flat_map, ◌∙◌, append_assoc}
use Rattle.std.specs.Prelude.{string_bytes}
use Rattle.std.proofs.lemmas.Result.{on_ok_weaker}
use Rattle.dia_data.specs.Shown.{hex_byte}
use Rattle.dia_text.proofs.Pushed.{last_pushed}
use Rattle.dia_text.proofs.many.push_digits.Goals as goal

pub returns : goal.returns
returns c =
    on_ok_weaker c.push_str.result
    (λ e. e ∙ ap (λ (t : List ℕ). t ++ (10 ∷ [])) c.in_ok-push_pairs.ensures ∙ append_assoc (string_bytes c.args.out.now) (flat_map hex_byte c.args.bytes.now) (10 ∷ []))
    (last_pushed _ _ _ _ c.push_str.ensures.bytes)
