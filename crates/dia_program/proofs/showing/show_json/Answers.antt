use Rattle.std.proofs.Common.{◌≡◌, true, false, string_bytes}
use Rattle.dia_program.proofs.showing.show_json.Goals as goal

pub returns-in-Ok : goal.returns-in-Ok
returns-in-Ok g c =
    rw c.recorded_of.ensures (
      λ t. let e : false ≡ true = c.in-Ok.ensures.failed.1 t in absurd cc,
      (string_bytes c.in_ok-text.field-0.text, c.in_ok-text.ensures.outcome, rw c.as_bytes.ensures.value at c.in-Ok.ensures.ok),
    )
