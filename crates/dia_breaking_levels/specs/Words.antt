-- The words of reasons.
use Rattle.std.specs.Prelude.{ℕ, List, codes}
use Rattle.dia_breaking_levels.specs.declared.line.Reason.{Reason}
use Rattle.dia_breaking_levels.specs.declared.line.Reason.TheVariants.{Missing, TooMany, NotAllowed, NotAllowedOther, MissingOthers, TooManyOthers, Order}

abbrev pub reason_word : Reason → List ℕ
reason_word Missing = codes "missing"
reason_word TooMany = codes "too-many"
reason_word NotAllowed = codes "not-allowed"
reason_word NotAllowedOther = codes "not-allowed"
reason_word MissingOthers = codes "missing"
reason_word TooManyOthers = codes "too-many"
reason_word Order = codes "order"
