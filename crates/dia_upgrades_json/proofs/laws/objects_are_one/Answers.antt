use Rattle.std.proofs.Common.{List, ℕ}
use Rattle.dia_upgrades_json.specs.LineObjects.{cause_object, line_object}
use Rattle.dia_run.specs.Texts.{line}
use Rattle.dia_upgrades_json.proofs.laws.objects_are_one.Goals as goal

pub returns-clause-line : goal.returns-clause-line
returns-clause-line c = λ a b texts names are row i. line (line_object (λ (n : List ℕ). are.first_are n i) (λ (n : List ℕ). are.second_are n i) (are.texts_are i) row.parts row.words row.digits)

pub returns-clause-cause : goal.returns-clause-cause
returns-clause-cause c = λ a b texts names are t i.
    line (cause_object (λ (n : List ℕ). are.first_are n i) (λ (n : List ℕ). are.second_are n i) (are.texts_are i) t.commands t.parts t.words t.digits)
