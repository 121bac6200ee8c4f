-- The M flag of shortest AVPs.
use Rattle.std.proofs.Common.{◌≡◌, ℕ, ◌<◌, length, Option, sym, ap, subst, ◌∙◌}
use Rattle.std.specs.Prelude.{false, slice_get, IfSome}
use Rattle.std.specs.Option.{option_map_or}
use Rattle.dia_book.specs.declared.MRule.{MRule}
use Rattle.dia_book.specs.Dictionary.{Dictionary, DictEntry}
use Rattle.dia_breaking_shortest.specs.Bytes.{demands_m, needs_m}
use Rattle.dia_breaking_shortest.proofs.LeafLengths.{there}

pub flag_needed : (d : Dictionary) (e : ℕ) (rule : MRule) → e < length d.entries → IfSome (slice_get d.entries e) (λ x. rule ≡ x.rule) → demands_m rule ≡ needs_m d e
flag_needed d e rule within is =
    let x = there d.entries e within in
    ap demands_m (subst (λ (o : Option DictEntry). IfSome o (λ y. rule ≡ y.rule)) x.1 is) ∙ ap (λ (o : Option DictEntry). option_map_or (λ y. demands_m y.rule) o false) (sym x.1)
