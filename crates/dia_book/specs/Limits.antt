-- How large a dictionary may be (our profile).
use Rattle.std.specs.Prelude.{ℕ}

-- the most rules of a definition
abbrev pub max_rules : ℕ
max_rules = 1024

-- the most declarations, groups and commands together, and so the most entries and commands
abbrev pub max_parts : ℕ
max_parts = 16384
