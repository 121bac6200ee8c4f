use Rattle.std.proofs.Common.{◌≡◌, ℕ, List}
use Rattle.std.proofs.lemmas.List.Elements.{same_from_all_zip}
use Rattle.dia_book.specs.declared.definition.DRule.{DRule}
use Rattle.dia_book.specs.Dictionary.{PlainDefinition, plain_definition}
use Rattle.dia_book.proofs.slots.DefinitionClone.clone.Goals as goal

copied : (name : List ℕ) (rules : List DRule) (old : PlainDefinition) → name ≡ old.name → rules ≡ old.rules → record { name = name; head = old.head; rules = rules } ≡ old
copied name rules old same alike = λ i. record { name = same i; head = old.head; rules = alike i }

pub returns : goal.returns
returns c = record {
  cases = copied _ _ (plain_definition c.args.self.now) c.in_ok-name.ensures.cases
      (same_from_all_zip _ _ _ c.in_ok-rules.ensures.cases.0 (λ x y same. same));
}
