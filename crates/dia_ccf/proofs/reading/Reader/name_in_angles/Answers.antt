use Rattle.std.proofs.Common.{Ok, Err, refl}
use Rattle.std.specs.Prelude.{true, false, string_bytes}
use Rattle.dia_ccf.specs.Tokens.{Greater}
use Rattle.dia_ccf.specs.Machine.{name_at, sign_at}
use Rattle.dia_ccf.specs.ReaderFunctions.{course, left}
use Rattle.dia_ccf.proofs.ReaderSteps.{accepted, wants_by, leads_along, exits, named_by}
use Rattle.dia_ccf.specs.Grammar.{name, one}
use Rattle.dia_ccf.proofs.ReaderPlaces.{along, name_derived, sign_derived}
use Rattle.dia_ccf.proofs.reading.Reader.name_in_angles.Goals as goal

pub returns-in_err-expect-clause-read : goal.returns-in_err-expect-clause-read
returns-in_err-expect-clause-read c = λ state mid to h k.
    (let name = string_bytes c.in_ok-name.name in
    let first = accepted false true name_at (λ n. string_bytes n) mid state c.args.self.now c.name.new.self (Ok c.in_ok-name.name)
    (wants_by false true name_at mid state h (left c.args.self.now)) c.in_ok-name.ensures in
    let second = accepted {X = Unit {0}} false false (sign_at Greater) (λ u. tt) (λ u. to name) (mid name) c.name.new.self c.expect.new.self (Err c.in_err-expect.field-0.0)
    (wants_by false false (sign_at Greater) (λ u. to name) (mid name) (k name) (left c.name.new.self)) c.in_err-expect.ensures in
    leads_along (course state c.args.self.now) (course (mid name) c.name.new.self) (λ n. to (string_bytes n)) c.from_residual-in_err-expect.result c.expect.new.self first
    (exits (course (mid name) c.name.new.self)
    (λ n. to (string_bytes n)) c.in_err-expect.field-0.0 c.from_residual-in_err-expect.result c.expect.new.self c.from_residual-in_err-expect.ensures.1 second))

pub returns-clause-named : goal.returns-clause-named
returns-clause-named c = named_by c.args.self.now c.name.new.self (Ok c.in_ok-name.name) c.in_ok-name.ensures

pub returns-clause-derived : goal.returns-clause-derived
returns-clause-derived c =
    let n = string_bytes c.in_ok-name.name in
    along (name n) (one Greater) c.args.self.now c.name.new.self c.expect.new.self (name_derived c.args.self.now c.name.new.self c.in_ok-name.name c.in_ok-name.ensures)
    (sign_derived Greater c.name.new.self c.expect.new.self refl c.in_ok-expect.ensures)
