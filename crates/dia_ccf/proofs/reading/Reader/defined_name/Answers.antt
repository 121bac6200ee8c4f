use Rattle.std.proofs.Common.{refl}
use Rattle.std.specs.Prelude.{string_bytes}
use Rattle.dia_ccf.specs.Tokens.{Less}
use Rattle.dia_ccf.specs.Machine.{Between, Def_name, Def_close, Def_assign}
use Rattle.dia_ccf.specs.ReaderFunctions.{course}
use Rattle.dia_ccf.proofs.ReaderSteps.{takes_sign, leads_along, named_by}
use Rattle.dia_ccf.proofs.ReaderPlaces.{angles_opened, bare_opened}
use Rattle.dia_ccf.proofs.reading.Reader.defined_name.Goals as goal

pub returns-then-takes-clause-read : goal.returns-then-takes-clause-read
returns-then-takes-clause-read c = λ done free.
    leads_along (course (done, Between) c.args.self.now) (course (done, Def_name) c.takes.new.self) (λ n. (done, Def_assign (string_bytes n))) c.name_in_angles.result c.name_in_angles.new.self
    (takes_sign (done, Between) (done, Def_name) Less c.args.self.now c.takes.new.self c.if-takes.ensures refl)
    (c.name_in_angles.ensures.read (done, Def_name) (λ n. (done, Def_close n)) (λ n. (done, Def_assign n))
    (record { next_is = λ t. refl; refused_is = λ t. refl; unfinished = refl }) (λ n. record { next_is = λ t. refl; refused_is = λ t. refl; unfinished = refl }))

pub returns-else-takes-clause-named : goal.returns-else-takes-clause-named
returns-else-takes-clause-named c = named_by c.takes.new.self c.name.new.self c.name.result c.name.ensures

pub returns-then-takes-clause-derived : goal.returns-then-takes-clause-derived
returns-then-takes-clause-derived c =
    angles_opened c.args.self.now c.takes.new.self c.name_in_angles.new.self c.name_in_angles.result c.if-takes.ensures c.name_in_angles.ensures.derived

pub returns-else-takes-clause-derived : goal.returns-else-takes-clause-derived
returns-else-takes-clause-derived c = bare_opened c.args.self.now c.takes.new.self c.name.new.self c.name.result c.if-takes.ensures.1 c.name.ensures
