use Rattle.dia_ccf.proofs.ReaderInDeclarations.{vendor_leads, no_vendor}
use Rattle.std.proofs.Common.{refl, inl}
use Rattle.dia_ccf.specs.Grammar.{vendor}
use Rattle.dia_ccf.proofs.ReaderPlaces.{vendor_derived, unmoved}
use Rattle.dia_ccf.proofs.reading.Reader.vendor.Goals as goal

pub returns-then-takes_word-clause-read : goal.returns-then-takes_word-clause-read
returns-then-takes_word-clause-read c = λ done name code.
    vendor_leads done name code c.args.self.now c.takes_word.new.self c.number.new.self c.number.result c.if-takes_word.ensures c.number.ensures

pub returns-else-takes_word-clause-read : goal.returns-else-takes_word-clause-read
returns-else-takes_word-clause-read c = λ done name code.
    no_vendor done name code c.args.self.now c.takes_word.new.self c.if-takes_word.ensures.0 c.if-takes_word.ensures.1

pub returns-then-takes_word-clause-derived : goal.returns-then-takes_word-clause-derived
returns-then-takes_word-clause-derived c = vendor_derived c.number.result c.args.self.now c.takes_word.new.self c.number.new.self c.if-takes_word.ensures c.number.ensures

pub returns-else-takes_word-clause-derived : goal.returns-else-takes_word-clause-derived
returns-else-takes_word-clause-derived c = unmoved (vendor 0) c.args.self.now c.takes_word.new.self c.if-takes_word.ensures.1 (inl (refl, refl))
