use Rattle.std.proofs.Common.{◌≡◌, ◌-◌, ◌≤◌, false}
use Rattle.std.specs.Prelude.{◌&&◌, not, IsTrue, []}
use Rattle.std.specs.List.{list_all}
use Rattle.dia_ccf.specs.Names.{is_range}
use Rattle.dia_ccf.specs.Tokens.{Close_parenthesis}
use Rattle.dia_ccf.specs.Plain.{PlainDecl, PlainSource}
use Rattle.dia_ccf.specs.Machine.{In_values, is_none, same_sign}
use Rattle.dia_ccf.specs.ReaderFunctions.{course, begins_with, left, Derived}
use Rattle.dia_ccf.specs.Grammar.{each, range}
use Rattle.dia_ccf.proofs.reading.Reader.ranges.Given as goal

abbrev pub invariant-loop-ranges : goal.invariant-loop-ranges
invariant-loop-ranges l = record {
  read : (done : PlainSource) (d : PlainDecl) → course (done, In_values d []) l.initial.self ≡ course (done, In_values d l.ranges.items) l.self;
  closed : (not (is_none l.ranges.items) && begins_with (same_sign Close_parenthesis) (left l.self)) ≡ false;
  listed : IsTrue (list_all is_range l.ranges.items);
  derived : Derived (each range l.ranges.items) l.initial.self l.self;
  farther : l.initial.self.taken ≤ l.self.taken;
}

abbrev pub decreases-loop-ranges : goal.decreases-loop-ranges
decreases-loop-ranges l = 1048577 - l.self.taken
