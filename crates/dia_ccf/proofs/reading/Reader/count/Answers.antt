use Rattle.dia_ccf.proofs.ReaderPlaces.{number_derived}
use Rattle.dia_ccf.proofs.reading.Reader.count.Goals as goal

pub returns-then-is_at_number-clause-derived : goal.returns-then-is_at_number-clause-derived
returns-then-is_at_number-clause-derived c = let n = c.in_ok-n.ensures in number_derived c.args.self.now c.number.new.self c.in_ok-n.n n.0 n.1 n.2
