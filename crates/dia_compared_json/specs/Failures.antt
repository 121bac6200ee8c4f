-- A pair of a table that fails a test, as a JSON value.
use Rattle.std.specs.Prelude.{List, ℕ, map, codes}
use Rattle.serde_json.specs.Data.{Data, Members, array, member, no_members, string}
use Rattle.dia_book.specs.Dictionary.{Dictionary}
use Rattle.dia_compat.specs.declared.Failing.{Failing}
use Rattle.dia_compat.specs.declared.PairKind.{PairKind}
use Rattle.dia_compat.specs.declared.PairKind.TheVariants as kind
use Rattle.dia_compat.specs.declared.Test.{Test}
use Rattle.dia_compat.specs.PairTests.{NamePair}
use Rattle.dia_compat.specs.TableText.{PlainTable}
use Rattle.dia_run.specs.Pairs.{test_word}
use Rattle.dia_refused_json.specs.Members.{json_line, verdict_members}
use Rattle.dia_compared_json.specs.Objects.{items_of}
use Rattle.dia_compared_json.specs.Parts.{failing_value, side_of}

abbrev pub kind_word : PairKind → List ℕ
kind_word kind.Command = codes "command"
kind_word kind.Avp = codes "avp"

abbrev pub pairs_listed : PairKind → PlainTable → List NamePair
pairs_listed kind.Command t = t.commands
pairs_listed kind.Avp t = t.avps

-- a pair that fails a test: the pair as `propose` writes it, the test, and what fails it
abbrev pub failure_members : PairKind → NamePair → Test → List Data → Members
failure_members k p test fails = verdict_members (codes "no") (member (codes "kind") (string (kind_word k)) (member (codes "first") (string p.0)
    (member (codes "second") (string p.1) (member (codes "test") (string (test_word test)) (member (codes "fails") (array (items_of fails)) no_members)))))

abbrev pub fails_of : Dictionary → Dictionary → PairKind → NamePair → List Failing → List Data
fails_of a b k p fails = map (failing_value (side_of a k p.0) (side_of b k p.1)) fails

abbrev pub failure_json : Dictionary → Dictionary → PairKind → NamePair → Test → List Failing → List ℕ
failure_json a b k p test fails = json_line (failure_members k p test (fails_of a b k p fails))
