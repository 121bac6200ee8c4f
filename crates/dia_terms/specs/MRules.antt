-- The words of the rules of the M flag (our profile).
use Rattle.std.specs.Prelude.{ℕ, List, codes}
use Rattle.dia_terms.specs.declared.m_rules.MRule.{MRule}
use Rattle.dia_terms.specs.declared.m_rules.MRule.TheVariants.{Must, MustNot, Any}

abbrev pub rule_word : MRule → List ℕ
rule_word Must = codes "must"
rule_word MustNot = codes "mustnot"
rule_word Any = codes "any"
