-- The first requests that each definition answers.
use Rattle.std.specs.Prelude.{◌≡◌, ℕ, ◌<◌, ◌≤◌, nat_eq, if◌then◌else◌, List, length, Option, Some, None, slice_get}
use Rattle.std.specs.Option.{option_map, option_or}
use Rattle.dia_book.specs.Dictionary.{Dictionary, definitions, groups}
use Rattle.dia_lint.specs.declared.commands.Request.{Request}
use Rattle.dia_lint.specs.declared.guidelines.firsts.Firsts.{Firsts}
use Rattle.dia_lint.specs.declared.guidelines.firsts.Which.{Which}
use Rattle.dia_lint.specs.declared.guidelines.firsts.Which.TheVariants.{Any, Unlike, Session}
use Rattle.dia_lint.specs.Pairs.{IsUnnamed, first_request, is_answered, is_any, request_among}

-- among the first n commands, for each command the first of those that it answers
abbrev pub AreFirstOf : Dictionary → Which → ℕ → List (Option Request) → Type 0
AreFirstOf d which n list = (k : ℕ) → length (groups d) ≤ k → k < length (definitions d) → slice_get list k ≡ Some (request_among d (is_answered d which k) n)

-- among all
pub record AreFirsts (d : Dictionary) (firsts : Firsts) : Type 0 where
  pub unnamed : IsUnnamed d firsts.unnamed
  pub request : firsts.request ≡ first_request d is_any
  pub any : AreFirstOf d Any (length d.commands) firsts.any.items
  pub unlike : AreFirstOf d Unlike (length d.commands) firsts.unlike.items
  pub session : AreFirstOf d Session (length d.commands) firsts.session.items

-- the request is put where the definition has this number, and none is there yet
abbrev pub put_at : ℕ → Option Request → ℕ → Option (Option Request) → Option (Option Request)
put_at answer request k slot = option_map (λ first. option_or first (if nat_eq answer k then request else None)) slot
