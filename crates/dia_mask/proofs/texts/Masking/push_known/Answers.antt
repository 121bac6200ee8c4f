use Rattle.std.proofs.Common.{sym, ◌∙◌}
use Rattle.std.proofs.lemmas.Result.{on_ok_weaker}
use Rattle.dia_data.specs.Plain.{plain_format}
use Rattle.dia_mask.specs.declared.ways.Way.TheVariants as ways
use Rattle.dia_mask.proofs.Replacing.{puts_by_way}
use Rattle.dia_mask.proofs.texts.Masking.push_known.Goals as goal

pub returns-in-Text : goal.returns-in-Text
returns-in-Text c =
    on_ok_weaker c.push_accepted.result (puts_by_way (plain_format c.args.format.now) (ways.Text c.in-Text.refused) c.args.bytes.now c.args.self.now c.push_accepted.new.self
    (sym c.of.ensures ∙ c.in-Text.is)) c.push_accepted.ensures

pub returns-in-Rule : goal.returns-in-Rule
returns-in-Rule c =
    on_ok_weaker c.push_rule.result (puts_by_way (plain_format c.args.format.now) ways.Rule c.args.bytes.now c.args.self.now c.push_rule.new.self
    (sym c.of.ensures ∙ c.in-Rule.is)) c.push_rule.ensures

pub returns-in-Address : goal.returns-in-Address
returns-in-Address c =
    on_ok_weaker c.push_address.result (puts_by_way (plain_format c.args.format.now) ways.Address c.args.bytes.now c.args.self.now c.push_address.new.self
    (sym c.of.ensures ∙ c.in-Address.is)) c.push_address.ensures

pub returns-in-Bytes : goal.returns-in-Bytes
returns-in-Bytes c =
    on_ok_weaker c.push_bytes.result (puts_by_way (plain_format c.args.format.now) ways.Bytes c.args.bytes.now c.args.self.now c.push_bytes.new.self
    (sym c.of.ensures ∙ c.in-Bytes.is)) c.push_bytes.ensures
