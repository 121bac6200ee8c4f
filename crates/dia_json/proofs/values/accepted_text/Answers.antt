use Rattle.std.proofs.Common.{sym, ◌∙◌}
use Rattle.std.specs.Prelude.{string_bytes}
use Rattle.std.proofs.lemmas.Result.{IfOk-weaker}
use Rattle.dia_data.specs.Plain.{plain_format}
use Rattle.dia_json.proofs.DataValues.{number_recorded, long_recorded, text_kind, address_recorded, address_kind, address_leaf, octets_recorded}
use Rattle.dia_json.proofs.values.accepted_text.Goals as goal

pub returns-in-Number : goal.returns-in-Number
returns-in-Number c =
    IfOk-weaker c.print_value.result _ _
    (λ text shown. number_recorded (plain_format c.args.format.now) c.args.bytes.now (string_bytes text) (sym c.kind_of.ensures ∙ c.in-Number.is) c.requires shown) c.print_value.ensures

pub returns-in-LongNumber : goal.returns-in-LongNumber
returns-in-LongNumber c =
    IfOk-weaker c.shown_text.result _ _
    (λ text shown. long_recorded (plain_format c.args.format.now) c.args.bytes.now (string_bytes text) (sym c.kind_of.ensures ∙ c.in-LongNumber.is) c.requires shown) c.shown_text.ensures

pub returns-in-Octets : goal.returns-in-Octets
returns-in-Octets c =
    IfOk-weaker c.hex_text.result _ _
    (λ text is. octets_recorded (plain_format c.args.format.now) c.args.bytes.now (string_bytes text) (sym c.kind_of.ensures ∙ c.in-Octets.is) is) c.hex_text.ensures

pub address_text-requires-clause-address : goal.address_text-requires-clause-address
address_text-requires-clause-address c = address_leaf (plain_format c.args.format.now) c.args.bytes.now (sym c.kind_of.ensures ∙ c.in-Address.is) c.requires

pub address_text-requires-clause-format : goal.address_text-requires-clause-format
address_text-requires-clause-format c = address_kind (plain_format c.args.format.now) (sym c.kind_of.ensures ∙ c.in-Address.is)

pub returns-in-Address : goal.returns-in-Address
returns-in-Address c =
    IfOk-weaker c.address_text.result _ _
    (λ text is. address_recorded (plain_format c.args.format.now) c.args.bytes.now (string_bytes text) (sym c.kind_of.ensures ∙ c.in-Address.is) is) c.address_text.ensures

pub unreachable-requires : goal.unreachable-requires
unreachable-requires c = c.in-Err.ensures.cases.0 (text_kind (plain_format c.args.format.now) c.args.bytes.now (sym c.in-Text.ensures) c.requires)
