use Rattle.std.proofs.Common.{length, refl, sym, ap, ◌∙◌, arith}
use Rattle.std.specs.Option.{option_and_then}
use Rattle.std.proofs.lemmas.Option.{slice_get_past, slice_get_read}
use Rattle.dia_ccf.specs.declared.source.Def.{Def}
use Rattle.dia_explain_places.specs.Parts.{start_in}
use Rattle.dia_explain_places.proofs.sites.start_among.Goals as goal

pub returns-in-Some : goal.returns-in-Some
returns-in-Some c =
    let defs = c.args.defs.now in
    let def = c.in-Some.def.now in
    let there = c.in-Some.ensures.lookup.3 in
    c.start_in.ensures
    ∙ ap (option_and_then (λ (d : Def). start_in d c.args.rule)) (sym (slice_get_read defs (length defs) c.args.index def refl there.0 (there.1 def)))

pub returns-in-None : goal.returns-in-None
returns-in-None c =
    ap (option_and_then (λ (d : Def). start_in d c.args.rule)) (sym (slice_get_past c.args.defs.now c.args.index (omega (arith, c.in-None.ensures.lookup))))
