use Rattle.std.proofs.Common.{arith, refl, ◌∙◌}
use Rattle.dia_ccf.specs.Machine.{Rules, Qual_star, Qual_done}
use Rattle.dia_ccf.specs.ReaderFunctions.{course}
use Rattle.dia_ccf.proofs.ReaderSteps.{leads_along, exits, min_read, max_read, min_stops, star_stops, max_stops}
use Rattle.dia_ccf.specs.Tokens.{Star}
use Rattle.dia_ccf.specs.Grammar.{◌then◌, one, count}
use Rattle.dia_ccf.proofs.ReaderPlaces.{along, sign_derived}
use Rattle.dia_ccf.proofs.reading.Reader.qualifier.Goals as goal

pub returns-in_err-min-clause-read : goal.returns-in_err-min-clause-read
returns-in_err-min-clause-read c = λ done d.
    exits (course (done, Rules d) c.args.self.now) (λ qual. (done, Qual_done d qual)) c.in_err-min.field-0.0 c.from_residual.result c.count.new.self c.from_residual.ensures.1
    (min_stops done d c.args.self.now c.count.new.self c.in_err-min.field-0.0 c.in_err-min.ensures.read)

pub returns-in_err-expect-clause-read : goal.returns-in_err-expect-clause-read
returns-in_err-expect-clause-read c = λ done d.
    exits (course (done, Rules d) c.args.self.now)
    (λ qual. (done, Qual_done d qual)) c.in_err-expect.field-0.0 c.from_residual-in_err-expect.result c.expect.new.self c.from_residual-in_err-expect.ensures.1
    (star_stops done d c.args.self.now c.count.new.self c.expect.new.self c.in_ok-min.min c.in_err-expect.field-0.0 c.requires c.in_ok-min.ensures.read c.in_err-expect.ensures)

pub returns-in_err-max-clause-read : goal.returns-in_err-max-clause-read
returns-in_err-max-clause-read c = λ done d.
    (let min = c.in_ok-min.min in
    leads_along (course (done, Rules d) c.args.self.now) (course (done, Qual_star d min) c.expect.new.self)
    (λ qual. (done, Qual_done d qual)) c.from_residual-in_err-max.result c.count-2.new.self
    (min_read done d c.args.self.now c.count.new.self c.expect.new.self min c.in_ok-min.ensures.read c.in_ok-expect.ensures)
    (exits (course (done, Qual_star d min) c.expect.new.self)
    (λ qual. (done, Qual_done d qual)) c.in_err-max.field-0.0 c.from_residual-in_err-max.result c.count-2.new.self c.from_residual-in_err-max.ensures.1
    (max_stops done d c.expect.new.self c.count-2.new.self min c.in_err-max.field-0.0 c.in_err-max.ensures.read)))

pub returns-clause-read : goal.returns-clause-read
returns-clause-read c = λ done d.
    min_read done d c.args.self.now c.count.new.self c.expect.new.self c.in_ok-min.min c.in_ok-min.ensures.read c.in_ok-expect.ensures
    ∙ max_read done d c.expect.new.self c.count-2.new.self c.in_ok-min.min c.in_ok-max.max c.in_ok-max.ensures.read

pub returns-clause-farther : goal.returns-clause-farther
returns-clause-farther c = omega (arith, c.in_ok-min.ensures.farther, c.in_ok-expect.ensures.2.2, c.in_ok-max.ensures.farther)

pub returns-clause-small : goal.returns-clause-small
returns-clause-small c = rw (c.in_ok-min.ensures.small, c.in_ok-max.ensures.small) refl

pub returns-clause-derived : goal.returns-clause-derived
returns-clause-derived c =
    let min = c.in_ok-min.min in
    let max = c.in_ok-max.max in
    along (count min) (one Star then count max) c.args.self.now c.count.new.self c.count-2.new.self c.in_ok-min.ensures.derived
    (along (one Star) (count max) c.count.new.self c.expect.new.self c.count-2.new.self (sign_derived Star c.count.new.self c.expect.new.self refl c.in_ok-expect.ensures) c.in_ok-max.ensures.derived)
