use Rattle.std.proofs.Common.{◌≡◌, ℕ, length, Option, Some}
use Rattle.std.specs.Prelude.{IfSome, slice_get}
use Rattle.dia_differences.specs.Partners.{avp_partner}
use Rattle.dia_differences.proofs.partners.avps_there.Given as goal

abbrev pub invariant-loop-index : goal.invariant-loop-index
invariant-loop-index g l =
    (length l.there.items ≡ l.index) × ((i : ℕ) (o : Option ℕ) → slice_get l.there.items i ≡ Some o → IfSome (slice_get (g.A.Book.meaning l.a).entries i) (λ x. o ≡ avp_partner (g.A.Book.meaning l.a) (g.B.Book.meaning l.b) x))
