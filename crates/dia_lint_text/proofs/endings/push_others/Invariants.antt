use Rattle.std.proofs.Common.{◌≡◌, ◌++◌, flat_map, map, take}
use Rattle.std.specs.Prelude.{string_bytes}
use Rattle.dia_accepted.specs.Accepted.{PlainEntry, plain_entry}
use Rattle.dia_lint_text.specs.Lines.{another}
use Rattle.dia_lint_text.proofs.endings.push_others.Given as goal

abbrev pub invariant-loop-entry : goal.invariant-loop-entry
invariant-loop-entry l =
    string_bytes l.out ≡ string_bytes l.initial.out ++ flat_map another (map (λ (e : PlainEntry). e.words) (map plain_entry (take l.entry-index l.entries)))
