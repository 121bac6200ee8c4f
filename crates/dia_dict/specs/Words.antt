-- The words for what is wrong with a source (our profile).
use Rattle.std.specs.Prelude.{ℕ, List, codes}
use Rattle.dia_dict.specs.declared.fault.DictKind.{DictKind}
use Rattle.dia_dict.specs.declared.fault.DictKind.TheVariants as kind

abbrev pub kind_word : DictKind → List ℕ
kind_word kind.Limit = codes "limit"
kind_word kind.DuplicateName = codes "duplicate-name"
kind_word kind.NoGroupFormat = codes "no-group-format"
kind_word kind.HeaderMismatch = codes "header-mismatch"
kind_word kind.DuplicateKey = codes "duplicate-key"
kind_word kind.DuplicateCommand = codes "duplicate-command"
kind_word kind.UndefinedName = codes "undefined-name"
kind_word kind.RepeatedSlot = codes "repeated-slot"
kind_word kind.MinOverMax = codes "min-over-max"
kind_word kind.RequiredMin = codes "required-min"
kind_word kind.OptionalMin = codes "optional-min"
