-- What is known of lines, one line more.
use Rattle.std.proofs.Common.{◌≡◌, ℕ, Bool, true, false, not, List, [], ◌∷◌, ◌++◌, refl, sym, ap, ◌∙◌}
use Rattle.std.specs.Prelude.{nat_le, ◌&&◌}
use Rattle.dia_breaking.specs.declared.line.Line.{Line}
use Rattle.dia_breaking.specs.declared.line.Site.{Site}
use Rattle.dia_breaking.specs.declared.line.Standing.{Standing}
use Rattle.dia_breaking.specs.declared.line.Standing.TheVariants.{Confirmed, Undecided}
use Rattle.dia_breaking.specs.Confirmed.{HaveStandings, IsStandingOf, has_no_message, is_checked, left_after, left_following, most_checked}
use Rattle.dia_breaking.specs.Messages.{Stock}
use Rattle.dia_breaking.specs.Sides.{Sides}
use Rattle.dia_breaking.specs.RecordedMessages.{AreConfirmedWhere, IsBroken, IsConfirmedWhere}

pub left_more : (left : ℕ) (lines : List Line) (line : Line) → left_after left (lines ++ line ∷ []) ≡ left_following (left_after left lines) line
left_more left [] line = refl
left_more left (x ∷ xs) line = left_more (left_following left x) xs line

pub standings_more : (left : ℕ) (lines : List Line) (line : Line) → HaveStandings left lines → IsStandingOf (left_after left lines) line line.standing → HaveStandings left (lines ++ line ∷ [])
standings_more left [] line have own = (own, tt)
standings_more left (x ∷ xs) line have own = (have.0, standings_more (left_following left x) xs line have.1 own)

-- the line with its status
pub so_recorded : (left : ℕ) (line : Line) (standing : Standing) → IsStandingOf left line standing → IsStandingOf left (record line { standing = standing }) standing
so_recorded left line standing is = record { undecided = is.undecided; checked = is.checked; too_long = is.too_long }

-- ---- where a line is confirmed

module _ (s : Sides) (k : Stock) (c : ℕ) (sites : List Site) where
  pub where_more : (left : ℕ) (lines : List Line) (line : Line) → AreConfirmedWhere s k c sites left lines → IsConfirmedWhere s k c sites (left_after left lines) line line.standing
      → AreConfirmedWhere s k c sites left (lines ++ line ∷ [])
  where_more left [] line are own = (own, tt)
  where_more left (x ∷ xs) line are own = (are.0, where_more (left_following left x) xs line are.1 own)

  module _ (left : ℕ) (line : Line) where
    -- the line with its status
    pub so_where : (standing : Standing) → IsConfirmedWhere s k c sites left line standing → IsConfirmedWhere s k c sites left (record line { standing = standing }) standing
    so_where standing iff = (
      (λ is. let (checked, (bytes, b)) = iff.0 is in (checked, (bytes, record { message = b.message; size = b.size; confirmed = b.confirmed; following = b.following }))),
      (λ both. let (checked, (bytes, b)) = both in iff.1 (checked, (bytes, record { message = b.message; size = b.size; confirmed = b.confirmed; following = b.following }))),
    )

    pub where_unchecked : (standing : Standing) → (standing ≡ Confirmed → ⊥) → is_checked left line ≡ false → IsConfirmedWhere s k c sites left line standing
    where_unchecked standing other none = ((λ is. absurd (other is)), (λ both. absurd (let e : false ≡ true = sym none ∙ both.0 in cc)))

    pub where_no_message : has_no_message line.cause ≡ true → IsConfirmedWhere s k c sites left line Undecided
    where_no_message none =
        where_unchecked Undecided (λ e. absurd cc) (ap (λ (b : Bool). not b && (nat_le line.length most_checked && nat_le line.length left)) none)

    pub where_broken : is_checked left line ≡ true → IsBroken s k c sites line → IsConfirmedWhere s k c sites left line Confirmed
    where_broken checked broken = ((λ is. (checked, broken)), (λ both. refl))

    pub where_unbroken : ¬ IsBroken s k c sites line → IsConfirmedWhere s k c sites left line Undecided
    where_unbroken none = ((λ is. absurd cc), (λ both. absurd (none both.1)))
