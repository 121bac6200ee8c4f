use Rattle.std.proofs.Common.{◌∙◌, ◌++◌, ap, codes}
use Rattle.std.proofs.lemmas.Result.{IfOk-weaker}
use Rattle.dia_compared_json.proofs.Texts.{array_is}
use Rattle.dia_compared_json.proofs.arrays.array_text.Goals as goal

pub returns : goal.returns
returns c =
    IfOk-weaker c.format.result _ _
    (λ text is values are. array_is c.args.elements.now _ values are (is ∙ ap (λ t. codes "[" ++ (t ++ codes "]")) c.after_comma-listed.ensures)) c.format.ensures.ok
