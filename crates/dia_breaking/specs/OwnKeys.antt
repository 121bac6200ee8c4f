-- The keys of AVPs that lines report as breaking by themselves: by their flags, or by their data.
use Rattle.std.specs.Prelude.{Option, Some, None}
use Rattle.dia_wire.specs.declared.Key.{Key}
use Rattle.dia_breaking.specs.declared.line.Cause.{Cause}
use Rattle.dia_breaking.specs.declared.line.Cause.TheVariants.{Command, Application, Proxiable, Level, Unknown, MBit, Format, LevelAsLeaf, Meaning}

-- the key of the AVPs, where the cause is of their flags
abbrev pub flags_key : Cause → Option Key
flags_key (Unknown key m) = Some key
flags_key (MBit key m) = Some key
flags_key Command = None
flags_key Application = None
flags_key (Proxiable set) = None
flags_key (Level line) = None
flags_key (Format key found) = None
flags_key (LevelAsLeaf key) = None
flags_key (Meaning key) = None

-- the key of the AVPs, where the cause is of their data
abbrev pub data_key : Cause → Option Key
data_key (Format key found) = Some key
data_key (LevelAsLeaf key) = Some key
data_key Command = None
data_key Application = None
data_key (Proxiable set) = None
data_key (Level line) = None
data_key (Unknown key m) = None
data_key (MBit key m) = None
data_key (Meaning key) = None
