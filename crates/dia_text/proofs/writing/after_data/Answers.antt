use Rattle.std.proofs.Common.{refl, arith}
use Rattle.dia_text.proofs.LevelTexts.{room, pad_of}
use Rattle.dia_text.proofs.writing.after_data.Goals as goal

pub overflow_sub-end : goal.overflow_sub-end
overflow_sub-end c = omega (arith, room _ _ _ c.requires)

pub returns : goal.returns
returns c = pad_of _ _ _ _ _ c.length.ensures refl
