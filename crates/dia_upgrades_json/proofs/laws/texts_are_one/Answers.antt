use Rattle.std.proofs.Common.{List, cond, ℕ}
use Rattle.std.specs.List.{flat_map}
use Rattle.dia_upgrades_json.specs.LineObjects.{cause_object, line_object}
use Rattle.dia_run.specs.Texts.{line}
use Rattle.dia_upgrades.specs.Rows.{Cause, Row, causes_of}
use Rattle.dia_upgrades_json.proofs.laws.texts_are_one.Goals as goal

pub returns-clause-all : goal.returns-clause-all
returns-clause-all c = λ asked a b texts names are rows i.
    let first = λ (n : List ℕ). are.first_are n i in
    let second = λ (n : List ℕ). are.second_are n i in
    cond asked.once (flat_map (λ (t : Cause). line (cause_object first second (are.texts_are i) t.commands t.parts t.words t.digits)) (causes_of rows))
    (flat_map (λ (row : Row). line (line_object first second (are.texts_are i) row.parts row.words row.digits)) rows)

pub returns-clause-first : goal.returns-clause-first
returns-clause-first c = λ a b texts names are rows i.
    flat_map (λ (row : Row). line (line_object (λ (n : List ℕ). are.first_are n i) (λ (n : List ℕ). are.second_are n i) (are.texts_are i) row.parts row.words row.digits)) rows
