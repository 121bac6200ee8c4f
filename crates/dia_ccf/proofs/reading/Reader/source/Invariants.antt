use Rattle.std.proofs.Common.{◌≡◌, ◌-◌}
use Rattle.std.specs.Prelude.{IsTrue, IfSome, string_bytes}
use Rattle.dia_ccf.specs.Names.{is_name}
use Rattle.dia_ccf.specs.Plain.{plain_source}
use Rattle.dia_ccf.specs.Machine.{Between}
use Rattle.dia_ccf.specs.ReaderFunctions.{course, following, nothing_read, unread, From}
use Rattle.dia_ccf.specs.Places.{IsPlacedBefore, opened}
use Rattle.dia_ccf.proofs.reading.Reader.source.Given as goal

abbrev pub invariant-loop-next : goal.invariant-loop-next
invariant-loop-next l = record {
  read : course (nothing_read, Between) l.initial.self ≡ course (plain_source l.source, following l.next) l.self;
  named : IfSome l.next (λ next. IsTrue (is_name (string_bytes next.name)));
  placed : IsPlacedBefore l.self.text.now (unread l.next l.self) l.source;
  begun : IfSome l.next (λ next. From next.at (opened (string_bytes next.name)) l.self);
}

abbrev pub decreases-loop-next : goal.decreases-loop-next
decreases-loop-next l = 1048577 - l.self.taken
