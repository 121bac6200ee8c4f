-- Effects of the same parts.
use Rattle.std.proofs.Common.{◌≡◌, Bool, ap, ◌∙◌}
use Rattle.dia_differences.specs.declared.lines.Effects.{Effects}

abbrev pub effects : Bool → Bool → Bool → Effects
effects breaks other_format ignored = record { breaks = breaks; other_format = other_format; ignored = ignored }

pub same_effects : (a b c x y z : Bool) → a ≡ x → b ≡ y → c ≡ z → effects a b c ≡ effects x y z
same_effects a b c x y z breaks other_format ignored = ap (λ v. effects v b c) breaks ∙ ap (λ v. effects x v c) other_format ∙ ap (λ v. effects x y v) ignored
