use Rattle.std.proofs.Common.{ap, ◌∙◌}
use Rattle.dia_ccf.specs.Plain.{plain_source}
use Rattle.dia_dict.specs.Resolution.{first_wrong, resolved}
use Rattle.dia_dict.proofs.BaseSound.{first_wrong-base_source, none_recorded}
use Rattle.dia_dict.proofs.BaseText.{derives-base}
use Rattle.dia_dict.proofs.base.base_book.Goals as goal

pub returns-in-Ok : goal.returns-in-Ok
returns-in-Ok c = record {
  meaning = c.in-Ok.ensures.ok.1 ∙ ap resolved c.in_ok-source.ensures;
  text = derives-base c.in_ok-source.field-0 c.in_ok-source.ensures;
}

pub unreachable-requires : goal.unreachable-requires
unreachable-requires c =
    none_recorded (plain_source c.in_ok-source.field-0) c.in-Err-Stands.field-0 c.in-Err-Stands.field-0-0 c.in-Err-Stands.field-0-1 c.in-Err-Stands.field-0-2
    (ap first_wrong c.in_ok-source.ensures ∙ first_wrong-base_source) c.in-Err-Stands.field-0-is c.in-Err-Stands.ensures.err
