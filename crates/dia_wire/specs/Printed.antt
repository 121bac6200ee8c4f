-- How values are displayed.
use Rattle.std.specs.Prelude.{ℕ, List, ◌++◌, codes}
use Rattle.std.specs.Fmt.{decimal}
use Rattle.dia_wire.specs.declared.avp_key.Key.{Key}

-- the code and the vendor in decimal, with a colon between them
abbrev pub key_text : Key → List ℕ
key_text key = decimal key.code ++ codes ":" ++ decimal key.vendor
