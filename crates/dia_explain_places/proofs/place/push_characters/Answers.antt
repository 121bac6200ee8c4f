use Rattle.std.proofs.Common.{◌++◌, flat_map, sym, ap, ◌∙◌, map-id}
use Rattle.std.specs.Prelude.{string_bytes}
use Rattle.std.proofs.lemmas.Iterator.{YieldsList-from_chars}
use Rattle.std.proofs.lemmas.Iterator.Consumers.{YieldsList-end}
use Rattle.dia_explain_places.specs.Places.{shown_char}
use Rattle.dia_explain_places.proofs.place.push_characters.Goals as goal

pub returns : goal.returns
returns c =
    let end = YieldsList-end (YieldsList-from_chars c.args.text.now c.utf8.text cc) c.loop-c.yielded _ c.loop-c.yielded_by _ _ c.in-None.is c.next.ensures.steps in
    c.loop-c.invariant ∙ ap (λ recorded. string_bytes c.args.out.now ++ flat_map shown_char recorded) (sym (map-id c.loop-c.yielded) ∙ end.0)
