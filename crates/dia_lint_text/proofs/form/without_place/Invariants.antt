use Rattle.std.proofs.Common.{◌≡◌, ◌-◌, ◌≤◌, length}
use denote.Text.{Utf8}
use denote.Shadow.{shadow}
use Rattle.dia_lint_text.specs.Lists.{after_first_place}
use Rattle.dia_lint_text.proofs.form.without_place.Given as goal

abbrev pub invariant-loop : goal.invariant-loop
invariant-loop l = shadow (Utf8 l.rest) × ((after_first_place l.entry ≡ after_first_place l.rest) × (length l.rest ≤ length l.entry - l.counter))
