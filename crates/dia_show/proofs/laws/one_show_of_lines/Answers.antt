use Rattle.dia_show.proofs.OneText.{one_text}
use Rattle.dia_show.proofs.laws.one_show_of_lines.Goals as goal

pub returns : goal.returns
returns c = one_text
