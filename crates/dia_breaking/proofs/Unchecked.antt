-- Lines of which nothing is known.
use Rattle.std.proofs.Common.{◌≡◌, ℕ, List, [], ◌∷◌, ◌++◌, refl, sym, subst, ◌⊎◌, inl, inr}
use Rattle.dia_breaking.specs.declared.line.Cause.{Cause}
use Rattle.dia_breaking.specs.declared.line.Line.{Line}
use Rattle.dia_breaking.specs.declared.line.Standing.TheVariants.{Unchecked}
use Rattle.dia_breaking.specs.Listing.{AreUnchecked, new_line}
use Rattle.dia_breaking.specs.Orders.{IsInOrderOf}
use Rattle.dia_breaking.proofs.FormatData.{all_in_order}
use Rattle.dia_breaking.proofs.Lists.{all_more}

abbrev IsUnchecked : Line → Type 0
IsUnchecked line = line.standing ≡ Unchecked

-- one line more, or none
pub unchecked_more : (old new : List Line) (site : ℕ) (cause : Cause) (takes : ℕ) → (new ≡ old) ⊎ (new ≡ old ++ new_line site cause takes ∷ []) → AreUnchecked old → AreUnchecked new
unchecked_more old new site cause takes (inl same) all = subst AreUnchecked (sym same) all
unchecked_more old new site cause takes (inr adds) all = all_more IsUnchecked old (new_line site cause takes) new adds all refl

pub unchecked_in_order : (all sorted : List Line) → IsInOrderOf (λ (line : Line). line.site) all sorted → AreUnchecked all → AreUnchecked sorted
unchecked_in_order all sorted order have = all_in_order IsUnchecked (λ (line : Line). line.site) all sorted order have
