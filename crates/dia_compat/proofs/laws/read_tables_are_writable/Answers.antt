use Rattle.dia_compat.proofs.TableReadBack.{read_is_writable}
use Rattle.dia_compat.proofs.laws.read_tables_are_writable.Goals as goal

pub returns : goal.returns
returns c = read_is_writable
