-- What an answer is written with over two dictionaries.
use Rattle.std.proofs.Common.{◌≡◌, ℕ, List, Option, Result, subst}
use Rattle.dia_book.specs.Dictionary.{Dictionary}
use Rattle.dia_io.specs.declared.Input.{Input}
use Rattle.dia_io.specs.declared.RunFault.{RunFault}
use Rattle.dia_upgrades.specs.declared.asked.Asked.{Asked}
use Rattle.dia_upgrades.specs.declared.reporting.BooksAnswer.{BooksAnswer}
use Rattle.dia_upgrades.specs.UnderWay.{Answers}
use Rattle.dia_upgrades.specs.Writing.{Writing}
use Rattle.dia_upgrades_json.specs.Spots.{PlainTexts}
use Rattle.dia_upgrades_json.specs.declared.keys.Names.{Names}
use Rattle.dia_upgrades_json.specs.Objects.{AreNamesOf, json_by, json_in, json_over}

-- it doesn't depend on how AVPs are looked up
pub one_writing : (a b : Dictionary) (texts : PlainTexts) (names : Names) → AreNamesOf a b texts names → json_in names ≡ json_over a b texts
one_writing a b texts names are i = json_by (λ (n : List ℕ). are.first_are n i) (λ (n : List ℕ). are.second_are n i) (are.texts_are i)

pub answers_over : (a b : Dictionary) (texts : PlainTexts) (names : Names) → AreNamesOf a b texts names → (asked : Asked) (list : Input) (old new : Option (List ℕ)) (r : Result BooksAnswer RunFault)
    → Answers (json_in names) asked list a b old new r → Answers (json_over a b texts) asked list a b old new r
answers_over a b texts names are asked list old new r has = subst (λ (w : Writing). Answers w asked list a b old new r) (one_writing a b texts names are) has
