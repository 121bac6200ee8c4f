use Rattle.std.proofs.Common.{Bor, List, ℕ, bytes_eq, subst}
use Rattle.std.specs.HashSet.{IsFromIterResult}
use Rattle.std.specs.Option.{option_copied}
use Rattle.dia_mask_text.proofs.Naming.{made_set}
use Rattle.dia_mask_text.proofs.choosing.NameList.of.Goals as goal

pub returns : goal.returns
returns c = record {
  are_names = c.in_ok-names.ensures;
  is_set = made_set c.in_ok-names.names.items c.in_ok-set.set (option_copied c.args.list)
      (subst (λ (xs : List (Bor (List ℕ))). IsFromIterResult (λ (x y : Bor (List ℕ)). bytes_eq x.now y.now) xs c.in_ok-set.set) c.deref.ensures.value c.in_ok-set.ensures) c.in_ok-names.ensures;
}
