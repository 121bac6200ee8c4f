use Rattle.dia_data.specs.Plain.{plain_format}
use Rattle.dia_mask.proofs.Replacing.{accepted_slice}
use Rattle.dia_mask.proofs.data.split_text.Goals as goal

pub returns-in-Err-clause-always : goal.returns-in-Err-clause-always
returns-in-Err-clause-always c =
    absurd (c.in-Err.ensures.cases.0 (accepted_slice (plain_format c.args.format.now) c.args.bytes.now c.start_of_text-from.result c.start_of_text-from.ensures.start c.requires.way c.requires.leaf))
