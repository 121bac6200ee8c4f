use Rattle.std.proofs.Common.{List, ℕ, ap, append_assoc, ◌++◌, ◌∙◌}
use Rattle.std.specs.Prelude.{string_bytes}
use Rattle.std.proofs.lemmas.Result.{on_ok_weaker}
use Rattle.dia_wire.specs.Wire.{plain_avp}
use Rattle.dia_show.specs.Listing.{margin, numbers}
use Rattle.dia_show.proofs.listing.push_columns.Goals as goal

pub returns : goal.returns
returns c =
    let last = numbers c.args.names c.args.place c.args.depth (plain_avp c.args.avp.now) in
    on_ok_weaker c.push_numbers.result
    (λ is_new. is_new ∙ ap (λ (t : List ℕ). t ++ last) c.in_ok-push_margin.ensures ∙ append_assoc (string_bytes c.args.text.now) (margin c.args.names c.args.depth) last) c.push_numbers.ensures
