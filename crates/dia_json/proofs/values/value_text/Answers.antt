use Rattle.std.specs.Prelude.{string_bytes}
use Rattle.std.proofs.lemmas.Result.{IfOk-weaker}
use Rattle.dia_data.specs.declared.accept.Leaf.TheVariants.{BadLength, BadValue}
use Rattle.dia_data.specs.Plain.{plain_format}
use Rattle.dia_json.proofs.DataValues.{accepted_value, refused_value, not_length, not_value}
use Rattle.dia_json.proofs.values.value_text.Goals as goal

pub returns-in-Fine : goal.returns-in-Fine
returns-in-Fine c =
    IfOk-weaker c.accepted_text.result _ _
    (λ text is. accepted_value (plain_format c.args.format.now) c.args.bytes.now (string_bytes text) c.in-Fine.ensures is) c.accepted_text.ensures

pub returns-in-BadLength : goal.returns-in-BadLength
returns-in-BadLength c =
    IfOk-weaker c.hex_text.result _ _
    (λ text is. refused_value BadLength (plain_format c.args.format.now) c.args.bytes.now (string_bytes text) c.in-BadLength.ensures not_length is) c.hex_text.ensures

pub returns-in-BadValue : goal.returns-in-BadValue
returns-in-BadValue c =
    IfOk-weaker c.hex_text-in-BadValue.result _ _
    (λ text is. refused_value BadValue (plain_format c.args.format.now) c.args.bytes.now (string_bytes text) c.in-BadValue.ensures not_value is) c.hex_text-in-BadValue.ensures
