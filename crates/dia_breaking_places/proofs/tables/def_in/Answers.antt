use Rattle.std.proofs.Common.{ap, ◌∙◌}
use Rattle.std.specs.Prelude.{option_and_then, slice_get}
use Rattle.dia_breaking_places.proofs.Firsts.{found_first, looked_up}
use Rattle.dia_breaking_places.proofs.tables.def_in.Goals as goal

pub returns-in-Some : goal.returns-in-Some
returns-in-Some c = λ f is.
    looked_up c.get-in-Some.result c.args.defs.now c.in-Some.place.now c.get-in-Some.ensures.lookup.0 c.get-in-Some.ensures.lookup.1
    ∙ ap (option_and_then (slice_get c.args.defs.now)) c.in-Some.ensures.value ∙ found_first f c.args.defs.now c.args.places.now c.args.text.now is

pub returns-in-None : goal.returns-in-None
returns-in-None c = λ f is.
    ap (option_and_then (slice_get c.args.defs.now)) c.in-None.ensures.value ∙ found_first f c.args.defs.now c.args.places.now c.args.text.now is
