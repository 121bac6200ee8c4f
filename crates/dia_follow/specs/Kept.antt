-- What is kept of an end beside its requests.
use Rattle.std.specs.Prelude.{ℕ, ◌==◌, ◌&&◌, Bool, nat_lt, if◌then◌else◌, List, [], ◌∷◌, ◌++◌, length, map, drop, position, Option, option_map, is_some}
use Rattle.std.specs.Str.{bytes_eq}
use Rattle.std.specs.Char.{to_ascii_lowercase}
use Rattle.dia_follow.specs.declared.codes.TheConstants.{MOST_STRAYS}
use Rattle.dia_follow.specs.declared.kept.Stray.{Stray}
use Rattle.dia_follow.specs.Places.{first, without_first}

-- one DiameterIdentity: the case of letters of ASCII doesn't count (RFC 6733 section 4.3.1)
abbrev pub same_host : List ℕ → List ℕ → Bool
same_host a b = bytes_eq (map to_ascii_lowercase a) (map to_ascii_lowercase b)

abbrev pub is_stray : ℕ → ℕ → ℕ → Stray → Bool
is_stray hop e2e code s = (s.hop == hop) && (s.e2e == e2e) && (s.code == code)

-- the line of the first answer with these identifiers and this code
abbrev pub stray_line : List Stray → ℕ → ℕ → ℕ → Option ℕ
stray_line strays hop e2e code = option_map (λ s. s.line) (first (is_stray hop e2e code) strays)

abbrev pub has_stray : List Stray → ℕ → ℕ → ℕ → Bool
has_stray strays hop e2e code = is_some (position (is_stray hop e2e code) strays)

-- the others
abbrev pub without_stray : List Stray → ℕ → ℕ → ℕ → List Stray
without_stray strays hop e2e code = without_first (is_stray hop e2e code) strays

-- the last 64
abbrev pub with_stray : List Stray → Stray → List Stray
with_stray strays s = (if nat_lt (length strays) MOST_STRAYS then strays else drop 1 strays) ++ s ∷ []
