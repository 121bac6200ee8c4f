use Rattle.std.proofs.Common.{◌+◌, List, None, drop, get_or, refl, subst}
use Rattle.std.proofs.lemmas.List.{drop_all}
use Rattle.std.proofs.lemmas.Option.{slice_get-get_or}
use Rattle.dia_peer.specs.declared.config.App.{App}
use Rattle.dia_peer.specs.declared.config.Kind.TheVariants.{Auth}
use Rattle.dia_peer.proofs.PlacesOfPairs.{Decides, decides_at, decides_more, decides_none, decides_all}
use Rattle.dia_peer.proofs.applications.are_distinct.Goals as goal

-- what follows the list
abbrev none : App
none = record { kind = Auth; id = 0; vendor = None }

pub returns-then-occurs_again : goal.returns-then-occurs_again
returns-then-occurs_again c = let apps = c.args.apps.now in let place = c.loop-place.place in (
  λ t. absurd cc,
  λ d. absurd (decides_none apps (drop (place + 1) apps) (get_or apps place none)
      (decides_at apps place none c.loop-place-test.true c.loop-place.invariant)
      (c.if-occurs_again.ensures (get_or apps place none) (slice_get-get_or apps place none c.loop-place-test.true)) d),
)

pub loop-place-preserved : goal.loop-place-preserved
loop-place-preserved c = let apps = c.args.apps.now in let place = c.loop-place.place in
    decides_more apps (drop (place + 1) apps) (get_or apps place none)
    (decides_at apps place none c.loop-place-test.true c.loop-place.invariant)
    (c.if-occurs_again.ensures (get_or apps place none) (slice_get-get_or apps place none c.loop-place-test.true))

pub returns : goal.returns
returns c = (
  λ t. decides_all c.args.apps.now (subst (λ (rest : List App). Decides c.args.apps.now rest) (drop_all _ c.args.apps.now c.loop-place-test.false) c.loop-place.invariant),
  λ d. refl,
)
