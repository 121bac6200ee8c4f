use Rattle.std.proofs.Common.{◌≡◌, Some, sym, ap, ◌∙◌, arith, rules}
use Rattle.std.specs.Prelude.{slice_get}
use Rattle.std.proofs.lemmas.Option.{slice_get-get_or}
use Rattle.dia_breaking.proofs.Paths.{steps_out, steps_end}
use Rattle.dia_breaking.specs.Words.{path_to}
use Rattle.dia_breaking.proofs.line.Breaks.path.Goals as goal

pub loop-wanted-preserved : goal.loop-wanted-preserved
loop-wanted-preserved c =
    let sites = c.args.self.now.sites.items in
    let s = c.index.result.now in
    let at : slice_get sites c.loop-wanted.wanted ≡ Some s = slice_get-get_or sites c.loop-wanted.wanted s (omega arith) ∙ ap (λ x. Some x) (sym c.index.ensures) in
    record {
      within = omega arith;
      rest = steps_out sites c.loop-wanted.below c.loop-wanted.wanted c.unwrap_or-wanted.result s c.loop-wanted.path.items _ (path_to sites c.args.site)
          (omega arith) at (search rules) c.in_ok-push.ensures.items c.loop-wanted.invariant.rest;
    }

pub returns : goal.returns
returns c = c.reverse.ensures.items ∙ steps_end c.args.self.now.sites.items c.loop-wanted.below c.loop-wanted.wanted c.loop-wanted.path.items _ c.loop-wanted-test.false c.loop-wanted.invariant.rest
