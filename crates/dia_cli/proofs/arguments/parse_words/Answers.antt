use Rattle.dia_cli.proofs.Forms.Accepted.{accepted}
use Rattle.dia_cli.proofs.arguments.parse_words.Goals as goal

pub returns-clause-forms : goal.returns-clause-forms
returns-clause-forms g c = λ program quiet form are plain. accepted _ program quiet form c.parsed.result are plain c.parsed.ensures.words c.parsed.ensures.refused
