-- Names of AVPs, groups and commands.
use Rattle.std.specs.Prelude.{ℕ, nat_le, Bool, false, not, ◌&&◌, ◌||◌, ◌==◌, List, [], ◌∷◌, length, codes}
use Rattle.std.specs.List.{list_all, list_any}
use Rattle.std.specs.Str.{bytes_eq}
use Rattle.std.specs.Char.{is_ascii_alphanumeric, is_ascii_alphabetic}
use Rattle.dia_terms.specs.Limits.{max_name}

-- a byte of a run: a letter, a digit or a dash
abbrev pub is_run_byte : ℕ → Bool
is_run_byte c = is_ascii_alphanumeric c || c == 45

-- the test of two texts by `==`
abbrev pub same_bytes : List ℕ → List ℕ → Bool
same_bytes = bytes_eq

-- a run that begins with a letter or a digit and holds a letter
abbrev pub is_name_run : List ℕ → Bool
is_name_run [] = false
is_name_run (c ∷ cs) = is_ascii_alphanumeric c && list_all is_run_byte cs && list_any is_ascii_alphabetic (c ∷ cs)

-- a name within the limit, and not the wildcard's
abbrev pub is_name : List ℕ → Bool
is_name name = is_name_run name && nat_le (length name) max_name && not (same_bytes name (codes "AVP"))
