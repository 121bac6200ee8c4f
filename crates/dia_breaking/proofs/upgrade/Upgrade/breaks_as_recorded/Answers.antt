use Rattle.std.proofs.Common.{◌≡◌, true, false, sym, ◌∙◌}
use Rattle.dia_breaking.proofs.Lists.{when_ok}
use Rattle.dia_breaking.proofs.upgrade.Upgrade.breaks_as_recorded.Goals as goal

pub returns-then-not-has_length : goal.returns-then-not-has_length
returns-then-not-has_length g c =
    ((λ yes. absurd cc), (λ recorded. absurd (let e : false ≡ true = sym c.if-not-has_length.true ∙ c.has_length.ensures.1 recorded.size in cc)))

pub breaks_corrected-requires : goal.breaks_corrected-requires
breaks_corrected-requires g c = c.in_ok-is_confirmed.ensures.0 c.if-branch.true

pub returns-then-branch : goal.returns-then-branch
returns-then-branch g c = when_ok _ _ c.breaks_corrected.result (λ b iff. (
  (λ yes. record {
    message = c.requires;
    size = c.has_length.ensures.0 c.if-not-has_length.false;
    confirmed = c.in_ok-is_confirmed.ensures.0 c.if-branch.true;
    following = iff.0 yes;
  }),
  (λ recorded. iff.1 recorded.following),
)) c.breaks_corrected.ensures

pub returns-else-branch : goal.returns-else-branch
returns-else-branch g c =
    ((λ yes. absurd cc), (λ recorded. absurd (let e : false ≡ true = sym c.if-branch.false ∙ c.in_ok-is_confirmed.ensures.1 recorded.confirmed in cc)))
