-- The words of faults.
use Rattle.std.specs.Prelude.{ℕ, List, codes}
use Rattle.dia_text.specs.declared.fault.Kind.{Kind}
use Rattle.dia_text.specs.declared.fault.Kind.TheVariants.{Syntax, Name, Value, Braces, Limit}

abbrev pub kind_word : Kind → List ℕ
kind_word Syntax = codes "syntax"
kind_word Name = codes "name"
kind_word Value = codes "value"
kind_word Braces = codes "braces"
kind_word Limit = codes "limit"
