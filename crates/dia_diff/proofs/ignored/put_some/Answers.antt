use Rattle.std.proofs.Common.{Option, false, sym, ap, ◌∙◌}
use Rattle.std.specs.Prelude.{◌||◌}
use Rattle.std.specs.HashSet.{contains}
use Rattle.std.specs.Option.{option_map_or}
use Rattle.std.proofs.lemmas.Result.{on_ok_weaker}
use Rattle.dia_wire.specs.declared.Key.{Key}
use Rattle.dia_book.specs.Keys.{same_key}
use Rattle.dia_diff.proofs.Tests.{any_first}
use Rattle.dia_diff.proofs.ignored.put_some.Goals as goal

pub returns-in-Some : goal.returns-in-Some
returns-in-Some c =
    on_ok_weaker c.put.result (λ added q. added q ∙ ap (λ (o : Option Key). contains same_key c.args.set.now q || option_map_or (λ k. same_key k q) o false) (sym c.in-Some.is)) c.put.ensures

pub returns-in-None : goal.returns-in-None
returns-in-None c = λ q.
    any_first (λ (k : Key). same_key k q) (contains same_key c.args.set.now q)
    ∙ ap (λ (o : Option Key). contains same_key c.args.set.now q || option_map_or (λ k. same_key k q) o false) (sym c.in-None.is)
