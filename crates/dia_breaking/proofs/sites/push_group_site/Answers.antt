use Rattle.std.proofs.Common.{[], ◌++◌, Option, sym, ap, ◌∙◌, append-nil, arith}
use Rattle.std.specs.List.{cons_option}
use Rattle.std.specs.Option.{option_map}
use Rattle.std.proofs.lemmas.Option.{slice_get_past}
use Rattle.dia_breaking.specs.declared.own_breaks.OwnBreaks.{OwnBreaks}
use Rattle.dia_breaking.specs.Sites.{group_site}
use Rattle.dia_breaking.proofs.sites.push_group_site.Goals as goal

pub returns-in-None : goal.returns-in-None
returns-in-None c = sym (append-nil c.args.sites.now.items)
    ∙ ap (λ (o : Option OwnBreaks). c.args.sites.now.items ++ cons_option (option_map (λ one. group_site c.args.numbers.first c.args.numbers.count c.args.step.now one.key) o) [])
    (sym (slice_get_past c.args.own.now c.args.step.now.place (omega (arith, c.in-None.ensures.lookup))))
