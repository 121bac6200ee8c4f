-- The definitions that a dictionary answers are in range.
use Rattle.std.proofs.Common.{◌≡◌, ℕ, ◌+◌, ◌<◌, length, Option, Some, None, sym, ap, inl, inr, ◌∙◌}
use Rattle.std.specs.Prelude.{◌⊎◌, IfSome, slice_get}
use Rattle.std.proofs.lemmas.Option.{same_Some, slice_get_within}
use Rattle.dia_book.specs.declared.Class.{Class}
use Rattle.dia_book.specs.Dictionary.{Dictionary, definitions, groups, selected}
use Rattle.dia_book.proofs.Members.{into_right}
use Rattle.dia_valid.proofs.SelectedCommands.{Choice, NoChoice, choose}
use Rattle.dia_valid.proofs.Members.{when_some}

pub command_within : (d : Dictionary) (code : ℕ) (class : Class) (app : ℕ) (o : Option ℕ) → selected d code class app ≡ o → IfSome o (λ n. n < length (definitions d))
command_within d code class app o is = when_some (λ (n : ℕ). n < length (definitions d)) o (λ n e. by n e (choose d code class app))
  where
    by : (n : ℕ) → o ≡ Some n → Choice d code class app ⊎ NoChoice d code class app → n < length (definitions d)
    by n e (inl x) =
        let same : length (groups d) + x.place ≡ n = same_Some (length (groups d) + x.place) n (sym x.is_selected ∙ is ∙ e) in
        slice_get_within (definitions d) n x.command (ap (slice_get (definitions d)) (sym same) ∙ into_right (groups d) d.commands x.place x.command x.at)
    by n e (inr x) = absurd (let f : None ≡ Some n = sym x.is_none ∙ is ∙ e in cc)
