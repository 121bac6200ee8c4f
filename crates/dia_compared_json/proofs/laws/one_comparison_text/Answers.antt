use Rattle.dia_compared_json.proofs.OneText.{one_text}
use Rattle.dia_compared_json.proofs.laws.one_comparison_text.Goals as goal

pub returns : goal.returns
returns c = one_text
