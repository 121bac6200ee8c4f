-- The numbers of c/dia.h that a call answers, by their words there: `c/reasons.py` compares the two.
use Rattle.std.specs.Prelude.{ℕ}

-- the version of the interface
abbrev pub abi_version : ℕ
abi_version = 1

abbrev pub ok : ℕ
ok = 0

abbrev pub refused : ℕ
refused = 1

abbrev pub none : ℕ
none = 2

abbrev pub no_memory : ℕ
no_memory = 3

abbrev pub no_room : ℕ
no_room = 4

abbrev pub is_open : ℕ
is_open = 5

abbrev pub is_closed : ℕ
is_closed = 6

abbrev pub bad_argument : ℕ
bad_argument = 7

abbrev pub outputs_left : ℕ
outputs_left = 8

abbrev pub spent : ℕ
spent = 9
