use Rattle.std.proofs.Common.{ℕ, List, arith, ap, sym, subst, refl, ◌∙◌}
use Rattle.dia_ccf.specs.declared.reading.Reader.{Reader}
use Rattle.dia_ccf.specs.Machine.{In_values}
use Rattle.dia_ccf.specs.ReaderFunctions.{course, Derived}
use Rattle.dia_ccf.proofs.ReaderInDeclarations.{some_more, ranges_more, ranges_closed, not_closed}
use Rattle.dia_ccf.specs.Tokens.{Close_parenthesis}
use Rattle.dia_ccf.specs.Grammar.{one, each, range}
use Rattle.dia_ccf.proofs.ReaderPlaces.{ranges_derived, takes_derived, along}
use Rattle.dia_ccf.proofs.reading.Reader.ranges.Goals as goal

pub loop-ranges-preserved : goal.loop-ranges-preserved
loop-ranges-preserved c =
    let ranges = c.loop-ranges.ranges.items in
    let more = c.push.new.self.items in
    let grown = c.in_ok-push.ensures.items in
    let mid = c.range.new.self in
    let same = c.if-takes.ensures.1 in
    record {
      read = λ done d.
          c.loop-ranges.invariant.read done d ∙ c.in_ok-range.ensures.read done d ranges c.loop-ranges.invariant.closed
          ∙ ap (λ (rs : List (ℕ × ℕ)). course (done, In_values d rs) mid) (sym grown) ∙ ap (course (done, In_values d more)) (sym same);
      closed = not_closed more mid c.takes.new.self same c.if-takes.ensures.0;
      listed = ranges_more ranges more c.in_ok-range.range grown c.loop-ranges.invariant.listed c.in_ok-range.ensures.listed;
      derived = subst (λ (r : Reader). Derived (each range more) c.args.self.now r) (sym same)
          (ranges_derived ranges more c.in_ok-range.range c.args.self.now c.loop-ranges.self mid grown c.loop-ranges.invariant.derived c.in_ok-range.ensures.derived);
      farther = omega (arith, c.loop-ranges.invariant.farther, c.in_ok-range.ensures.farther, ap (λ (r : Reader). r.taken) same);
    }

pub returns-then-takes-clause-read : goal.returns-then-takes-clause-read
returns-then-takes-clause-read c = λ done d.
    (let ranges = c.loop-ranges.ranges.items in
    let more = c.push.new.self.items in
    let grown = c.in_ok-push.ensures.items in
    c.loop-ranges.invariant.read done d ∙ c.in_ok-range.ensures.read done d ranges c.loop-ranges.invariant.closed
    ∙ ap (λ (rs : List (ℕ × ℕ)). course (done, In_values d rs) c.range.new.self) (sym grown)
    ∙ ranges_closed done d more c.range.new.self c.takes.new.self (some_more ranges more c.in_ok-range.range grown) c.if-takes.ensures)

pub returns-then-takes-clause-some : goal.returns-then-takes-clause-some
returns-then-takes-clause-some c = some_more c.loop-ranges.ranges.items c.push.new.self.items c.in_ok-range.range c.in_ok-push.ensures.items

pub returns-then-takes-clause-listed : goal.returns-then-takes-clause-listed
returns-then-takes-clause-listed c =
    ranges_more c.loop-ranges.ranges.items c.push.new.self.items c.in_ok-range.range c.in_ok-push.ensures.items c.loop-ranges.invariant.listed c.in_ok-range.ensures.listed

pub returns-then-takes-clause-derived : goal.returns-then-takes-clause-derived
returns-then-takes-clause-derived c =
    let ranges = c.loop-ranges.ranges.items in
    let more = c.push.new.self.items in
    along (each range more) (one Close_parenthesis) c.args.self.now c.range.new.self c.takes.new.self
    (ranges_derived ranges more c.in_ok-range.range c.args.self.now c.loop-ranges.self c.range.new.self c.in_ok-push.ensures.items c.loop-ranges.invariant.derived c.in_ok-range.ensures.derived)
    (takes_derived Close_parenthesis c.range.new.self c.takes.new.self refl c.if-takes.ensures)
