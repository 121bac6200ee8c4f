-- What a level is to have for a line.
use Rattle.std.proofs.Common.{◌≡◌, ℕ, List, Option, None, sym, ap, subst, ◌∙◌}
use Rattle.dia_wire.specs.declared.Key.{Key}
use Rattle.dia_breaking_levels.specs.declared.cut.Cut.{Cut}
use Rattle.dia_breaking_levels.specs.declared.line.Line.{Line}
use Rattle.dia_breaking_levels.specs.declared.line.Reason.{Reason}
use Rattle.dia_breaking_levels.specs.declared.line.Reason.TheVariants.{TooManyOthers}
use Rattle.dia_breaking_levels.specs.Chosen.{AreExtrasBy, IsCutFor, IsDemandOf, IsManyBy, PlainDemand, Reads, cheapest_key, extras_of, outer_key, reason_demand, wanted_others}

pub recorded_demand : (r : Reads) (line : Line) (reason : Reason) (cut : Cut) (d : PlainDemand) → line.reason ≡ reason → IsCutFor r reason cut → d ≡ reason_demand r cut reason line.key line.following → IsDemandOf r line d
recorded_demand r line reason cut d e is same =
    (cut, subst (λ (x : Reason). IsCutFor r x cut) (sym e) is, same ∙ ap (λ (x : Reason). reason_demand r cut x line.key line.following) (sym e))

-- where no cut counts
abbrev pub no_cut : Cut
no_cut = record { length = 0; left = 0 }

pub many_demanded : (r : Reads) (line : Line) (d : PlainDemand) → line.reason ≡ TooManyOthers → (cut : Cut) × IsManyBy r cut d → IsDemandOf r line d
many_demanded r line d e (cut, (is, same)) = recorded_demand r line TooManyOthers cut d e is same

pub many_is : (r : Reads) (rest outer : Option Key) (extras : List ℕ) → rest ≡ cheapest_key r → outer ≡ outer_key r → (cut : Cut) × AreExtrasBy r cut extras
    → (cut : Cut) × IsManyBy r cut (record { first = None; second = None; rest = rest; front = None; extras = extras; outer = outer })
many_is r rest outer extras rest_is outer_is (cut, (is, extras_are)) =
    let first = ap (λ (k : Option Key). let d : PlainDemand = record { first = None; second = None; rest = k; front = None; extras = extras; outer = outer } in d) rest_is in
    let second = ap (λ (xs : List ℕ). let d : PlainDemand = record { first = None; second = None; rest = cheapest_key r; front = None; extras = xs; outer = outer } in d) extras_are in
    let third = ap (λ (k : Option Key). let d : PlainDemand = record { first = None; second = None; rest = cheapest_key r; front = None; extras = extras_of r (wanted_others r) cut r.sent; outer = k } in d)
    outer_is in
    (cut, (is, first ∙ second ∙ third))
