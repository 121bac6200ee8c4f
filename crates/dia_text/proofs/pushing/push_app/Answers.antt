use Rattle.std.proofs.Common.{sym, ◌∙◌}
use Rattle.dia_text.proofs.pushing.push_app.Goals as goal

pub returns : goal.returns
returns c = rw (sym c.is_default_app.ensures ∙ c.if-is_default_app.false) c.push_number.ensures
