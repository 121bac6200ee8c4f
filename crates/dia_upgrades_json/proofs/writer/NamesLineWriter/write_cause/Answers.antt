use Rattle.std.proofs.Common.{◌∙◌, ◌++◌, List, ap, codes, ℕ}
use Rattle.std.specs.Prelude.{string_bytes}
use Rattle.std.proofs.lemmas.Result.{on_ok_weaker}
use Rattle.dia_upgrades_json.proofs.writer.NamesLineWriter.write_cause.Goals as goal

pub returns : goal.returns
returns c =
    on_ok_weaker c.write.result (λ e. e ∙ ap (λ (object : List ℕ). string_bytes c.args.text.now ++ (object ++ codes "\n")) c.in_ok-object.ensures) c.write.ensures.bytes
