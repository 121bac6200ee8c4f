use Rattle.std.proofs.Common.{◌∙◌, ap, sym}
use Rattle.json.specs.Json.{document}
use Rattle.json.proofs.Printed.Trees.{document-print}
use Rattle.serde_json.specs.Written.{outline}
use Rattle.serde_json.proofs.Texts.{print-outline}
use Rattle.dia_json.proofs.laws.text_is_value.Goals as goal

pub returns : goal.returns
returns c = λ value numbers shallow. ap document (sym (print-outline value)) ∙ document-print (outline value) numbers shallow
