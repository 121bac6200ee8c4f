use Rattle.std.proofs.Common.{rules}
use Rattle.dia_mask.proofs.Characters.{ends_nothing}
use Rattle.dia_mask.proofs.texts.Masking.end_word.Goals as goal

pub returns-then-is_empty : goal.returns-then-is_empty
returns-then-is_empty c = ends_nothing c.args.self.now (search rules)
