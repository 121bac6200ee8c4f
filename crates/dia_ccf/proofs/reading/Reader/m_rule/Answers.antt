use Rattle.std.proofs.Common.{refl, ◌∙◌}
use Rattle.dia_terms.specs.declared.MRule.TheVariants.{Must, MustNot, Any}
use Rattle.dia_ccf.proofs.ReaderInDeclarations.{rule_recorded, no_rule}
use Rattle.dia_ccf.proofs.reading.Reader.m_rule.Goals as goal

pub returns-then-takes_word : goal.returns-then-takes_word
returns-then-takes_word c = rule_recorded Must c.args.self.now c.args.self.now c.takes_word.new.self refl c.if-takes_word.ensures

pub returns-then-takes_word-2 : goal.returns-then-takes_word-2
returns-then-takes_word-2 c = rule_recorded MustNot c.args.self.now c.takes_word.new.self c.takes_word-else-takes_word.new.self c.if-takes_word.ensures.1 c.if-takes_word-2.ensures

pub returns-then-takes_word-3 : goal.returns-then-takes_word-3
returns-then-takes_word-3 c =
    rule_recorded Any c.args.self.now c.takes_word-else-takes_word.new.self c.takes_word-else-takes_word-2.new.self (c.if-takes_word-2.ensures.1 ∙ c.if-takes_word.ensures.1) c.if-takes_word-3.ensures

pub returns-else-takes_word-3 : goal.returns-else-takes_word-3
returns-else-takes_word-3 c =
    no_rule c.args.self.now c.takes_word.new.self c.takes_word-else-takes_word.new.self c.takes_word-else-takes_word-2.new.self c.if-takes_word.ensures c.if-takes_word-2.ensures c.if-takes_word-3.ensures
