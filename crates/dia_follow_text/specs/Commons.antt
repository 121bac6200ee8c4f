-- What the applications of two ends have in common, as text.
use Rattle.std.specs.Prelude.{ℕ, ◌==◌, Bool, true, false, if◌then◌else◌, List, [], ◌∷◌, ◌++◌, length, Option, Some, None, codes}
use Rattle.std.specs.List.{flat_map}
use Rattle.std.specs.Fmt.{decimal}
use Rattle.dia_follow.specs.Applications.{Apps}
use Rattle.dia_follow.specs.Commons.{is_nothing}

-- before each but the first
abbrev pub comma : Bool → List ℕ
comma true = []
comma false = codes ", "

abbrev pub entry_text : Bool → List ℕ → ℕ → List ℕ
entry_text is_first kind n = comma is_first ++ kind ++ codes " " ++ decimal n

-- applications of one kind
abbrev pub entries_text : Bool → List ℕ → List ℕ → List ℕ
entries_text is_first kind [] = []
entries_text is_first kind (n ∷ ns) = entry_text is_first kind n ++ flat_map (entry_text false kind) ns

-- as `auth 4, acct 3`
abbrev pub listed_text : List ℕ → List ℕ → List ℕ
listed_text auth acct = entries_text true (codes "auth") auth ++ entries_text (length auth == 0) (codes "acct") acct

abbrev pub all_or_listed : Option Apps → List ℕ
all_or_listed None = codes "all"
all_or_listed (Some apps) = listed_text apps.auth apps.acct

-- None: all applications
abbrev pub common_text : Option Apps → List ℕ
common_text common = if is_nothing common then codes "none" else all_or_listed common

-- where it is known
abbrev pub known_common_text : Option (Option Apps) → List ℕ
known_common_text None = []
known_common_text (Some common) = common_text common
