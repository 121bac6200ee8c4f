-- The requests of both ends that have no answer, by line.
use Rattle.std.specs.Prelude.{◌≡◌, ℕ, nat_lt, if◌then◌else◌, List, [], ◌∷◌, ◌++◌, map, drop, Option, None, Some}
use Rattle.dia_follow.specs.declared.End.{End}
use Rattle.dia_follow.specs.declared.End.TheVariants.{Initiator, Responder}
use Rattle.dia_follow.specs.declared.Request.{Request}

abbrev pub Note : Type 0
Note = End × Request

-- the requests at the front that are before a line
abbrev pub before : ℕ → List Request → List Request
before line [] = []
before line (q ∷ qs) = if nat_lt q.line line then q ∷ before line qs else []

-- the others
abbrev pub from : ℕ → List Request → List Request
from line [] = []
from line (q ∷ qs) = if nat_lt q.line line then from line qs else q ∷ qs

abbrev pub of_responder : Request → Note
of_responder q = (Responder, q)

-- before each request of the initiator those of the responder that are before its line
abbrev pub in_order : List Request → List Request → List Note
in_order [] theirs = map of_responder theirs
in_order (q ∷ ours) theirs = map of_responder (before q.line theirs) ++ (Initiator, q) ∷ in_order ours (from q.line theirs)

-- the lists without the request of an end at their front
abbrev pub ours_after : End → List Request → List Request
ours_after Initiator ours = drop 1 ours
ours_after Responder ours = ours

abbrev pub theirs_after : End → List Request → List Request
theirs_after Initiator theirs = theirs
theirs_after Responder theirs = drop 1 theirs

-- the first of both, if there is one
abbrev pub IsNext : List Request → List Request → Option Note → Type 0
IsNext ours theirs None = in_order ours theirs ≡ []
IsNext ours theirs (Some note) = in_order ours theirs ≡ note ∷ in_order (ours_after note.0 ours) (theirs_after note.0 theirs)
