-- The table of the rules that are asked for.
use Rattle.std.proofs.Common.{◌≡◌, Bool, List, refl, ap, ◌∙◌}
use Rattle.std.specs.Prelude.{map}
use Rattle.dia_lint.specs.Words.{rules}
use Rattle.dia_lint.specs.declared.rule.Rule.{Rule}
use Rattle.dia_lint.specs.declared.rule.Rule.TheVariants as rule
use Rattle.dia_lint_text.specs.Asking.{has_in}

pub has_of : (f : Rule → Bool) (r : Rule) → has_in (map f rules) r ≡ f r
has_of f rule.NoMessage = refl
has_of f rule.NoLevel = refl
has_of f rule.NeverStands = refl
has_of f rule.NeverHeld = refl
has_of f rule.SameCommand = refl
has_of f rule.TwiceListed = refl
has_of f rule.SaysNothing = refl
has_of f rule.NeverListed = refl
has_of f rule.NoAnswer = refl
has_of f rule.NoRequest = refl
has_of f rule.PDiffers = refl
has_of f rule.NoError = refl
has_of f rule.NoOrigin = refl
has_of f rule.NoRealm = refl
has_of f rule.RealmUnrouted = refl
has_of f rule.RealmAnswered = refl
has_of f rule.NoRouteRecord = refl
has_of f rule.NoProxyInfo = refl
has_of f rule.NoResult = refl
has_of f rule.NoFailedAvp = refl
has_of f rule.SessionPlace = refl
has_of f rule.SessionLost = refl
has_of f rule.NoSession = refl
has_of f rule.Closed = refl
has_of f rule.BaseAvp = refl
has_of f rule.Reserved = refl
has_of f rule.ClosedGroup = refl

-- the table of a test is the test
pub table_is : (f : Rule → Bool) (chosen : List Bool) → chosen ≡ map f rules → has_in chosen ≡ f
table_is f chosen is = ap has_in is ∙ (λ i r. has_of f r i)
