-- What each rule of a definition is asked by a test, and which rules those are.
use Rattle.std.specs.Prelude.{List, Option}
use Rattle.dia_book.specs.declared.DRule.{DRule}
use Rattle.dia_valid.specs.Valid.{is_listed}
use Rattle.dia_compat.specs.declared.reasons.Failing.{Failing}
use Rattle.dia_compat.specs.declared.reasons.Failing.TheVariants as failing
use Rattle.dia_compat.specs.declared.comparing.failing_rules.RuleTest.{RuleTest}
use Rattle.dia_compat.specs.declared.comparing.failing_rules.RuleTest.TheVariants as asks
use Rattle.dia_compat.specs.Sides.{Compared}
use Rattle.dia_compat.specs.Tests.{let_in_rule, covered_rule, listed_rule, of_key}
use Rattle.dia_compat.specs.PairTests.{is_covered}
use Rattle.dia_compat.specs.Failings.{Placed, unless, fails_fixed, fails_counts, fails_own}

abbrev pub asked_rules : RuleTest → List DRule → List DRule → List DRule
asked_rules asks.Fixed a b = b
asked_rules asks.Counts a b = a
asked_rules (asks.Unlisted wild) a b = a
asked_rules asks.Uncovered a b = a
asked_rules (asks.Own wildcard) a b = b
asked_rules (asks.Other wildcard) a b = a
asked_rules (asks.Listed wildcard) a b = b

abbrev pub fails_rule : Compared → RuleTest → List DRule → List DRule → Placed → Option Failing
fails_rule c asks.Fixed a b = fails_fixed a
fails_rule c asks.Counts a b = fails_counts b
fails_rule c (asks.Unlisted wild) a b = λ p. unless (let_in_rule b wild p.1) (failing.Unlisted p.0)
fails_rule c asks.Uncovered a b = λ p. unless (covered_rule (is_covered c) p.1) (failing.Uncovered p.0)
fails_rule c (asks.Own wildcard) a b = fails_own c.sides a wildcard
fails_rule c (asks.Other wildcard) a b = λ p. unless (listed_rule b p.1) (failing.CountsAsOther p.0 wildcard)
fails_rule c (asks.Listed wildcard) a b = λ p. unless (of_key (is_listed a) p.1) (failing.NotCounted p.0 wildcard)
