use Rattle.std.proofs.Common.{List, ℕ, ◌++◌, sym, ap, subst, ◌∙◌}
use Rattle.std.specs.Option.{option_map}
use Rattle.std.proofs.lemmas.Result.{on_ok_weaker}
use Rattle.dia_data.specs.Plain.{plain_format}
use Rattle.dia_mask.specs.Replaced.{IsNewData}
use Rattle.dia_mask.proofs.texts.Masking.replace.Goals as goal

pub returns-clause-replaced : goal.returns-clause-replaced
returns-clause-replaced c =
    on_ok_weaker c.push_data.result (λ puts numbers agrees.
    let p = puts.1 numbers agrees in
    subst (IsNewData numbers (option_map (λ f. plain_format f.now) c.args.format) c.args.bytes.now) (sym (p.2 ∙ ap (λ (t : List ℕ). t ++ p.0) c.clear.ensures.items)) p.1)
    c.push_data.ensures
