-- Keys of AVPs.
use Rattle.std.specs.Prelude.{Bool, ◌==◌, ◌&&◌}
use Rattle.dia_wire.specs.declared.Key.{Key}

-- two keys are one
abbrev pub same_key : Key → Key → Bool
same_key a b = (a.code == b.code) && (a.vendor == b.vendor)
