use Rattle.std.specs.Str.Lines.{lines}
use Rattle.dia_compat.proofs.TableLines.{one_table_of}
use Rattle.dia_compat.proofs.laws.one_table.Goals as goal

pub returns : goal.returns
returns c = λ text a b x y. one_table_of (lines text) a b x y
