use Rattle.std.proofs.Common.{◌≡◌, Bool, false, refl, sym}
use Rattle.std.specs.Prelude.{Option, None, Some, is_some}
use Rattle.dia_captures.specs.declared.reasons.Reasons.{Reasons}
use Rattle.dia_captures.proofs.ReasonsCounted.{counted_known, counted_same, still_none}
use Rattle.dia_captures.proofs.reasons.Reasons.add.Goals as goal

none_there : {A : Type 0} (o : Option A) (some : Bool) → some ≡ is_some o → some ≡ false → o ≡ None
none_there None some is none = refl
none_there (Some x) some is none = absurd cc

pub returns-then-not-count_again : goal.returns-then-not-count_again
returns-then-not-count_again c = λ mets h.
    let now : Reasons = record { kept = c.count_again.new.kept; others = c.args.self.now.others; refused = c.args.self.now.refused } in
    let none = sym c.if-not-count_again.ensures.found in
    c.add_new.ensures mets (none_there c.args.self.now.refused c.is_some.result c.is_some.ensures c.if-is_some.false) (counted_same c.args.self.now now mets c.args.place c.args.reason.now refl h refl c.count_again.ensures.kept none)
    (still_none c.args.self.now now mets c.args.place c.args.reason.now refl h c.count_again.ensures.kept none)

pub returns-else-not-count_again : goal.returns-else-not-count_again
returns-else-not-count_again c = λ mets h.
    let now : Reasons = record { kept = c.count_again.new.kept; others = c.args.self.now.others; refused = c.args.self.now.refused } in
    counted_known c.args.self.now now mets c.args.place c.args.reason.now refl h refl c.count_again.ensures.kept (sym c.if-not-count_again.ensures.found)
