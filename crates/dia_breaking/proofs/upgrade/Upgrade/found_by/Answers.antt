use Rattle.std.proofs.Common.{List, ◌++◌, ◌<◌, ◌^◌, length, ap₂, refl, subst, ◌∙◌}
use Rattle.dia_breaking_ways.specs.declared.graph.Step.{Step}
use Rattle.dia_breaking.specs.declared.line.Site.{Site}
use Rattle.dia_breaking.specs.declared.own_breaks.OwnBreaks.{OwnBreaks}
use Rattle.dia_breaking.specs.Sites.{group_sites}
use Rattle.dia_breaking.proofs.upgrade.Upgrade.found_by.Goals as goal

pub returns : goal.returns
returns g c =
    let numbers = c.args.numbers in
    record {
      command = refl;
      head = (refl, refl);
      sites = c.in_ok-push_group_sites.ensures
          ∙ ap₂ (λ (own : List OwnBreaks) (steps : List Step). c.args.sites.items ++ group_sites own numbers.first numbers.count steps) c.deref.ensures.value c.deref-2.ensures.value;
      few = subst (λ (sites : List Site). length sites < 2 ^ 64) c.deref-3.ensures.value c.count_sites.ensures;
      lines = c.in_ok-lines.ensures.order;
      meanings = c.in_ok-meanings.ensures.recorded;
      unchecked = c.in_ok-meanings.ensures.unchecked;
      formats = c.in_ok-lines.ensures.formats;
    }
