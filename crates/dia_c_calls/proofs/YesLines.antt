-- The line of an answer says yes only where the answer is yes.
use Rattle.std.proofs.Common.{◌≡◌, List, ℕ, refl}
use Rattle.dia_terms.specs.declared.Unknown.{Unknown}
use Rattle.dia_book.specs.Dictionary.{Dictionary}
use Rattle.dia_compat.specs.declared.Answer.{Answer}
use Rattle.dia_compat.specs.declared.Answer.TheVariants as answer
use Rattle.dia_compat.specs.declared.PairKind.TheVariants as pair
use Rattle.dia_compat.specs.TableText.{PlainTable}
use Rattle.dia_compat.specs.Closed.{IsTableAnswer, IsIncluded}
use Rattle.dia_io.specs.declared.Exit.{Exit}
use Rattle.dia_io.specs.declared.Exit.TheVariants.{Yes, No}
use Rattle.dia_run.specs.Pairs.{IsAnswerText}
use Rattle.dia_c_calls.specs.Comparisons.{IsComparedBy}

not_no : (exit : Exit) → exit ≡ No → exit ≡ Yes → ⊥
not_no exit is_no is_yes = cc

yes_only : (t : PlainTable) (found : Answer) (line : List ℕ) (exit : Exit) → IsAnswerText t found line exit → exit ≡ Yes → found ≡ answer.Yes
yes_only t answer.Yes line exit recorded is_yes = refl
yes_only t (answer.No pair.Command i test) line exit recorded is_yes = absurd (not_no exit recorded.3 is_yes)
yes_only t (answer.No pair.Avp i test) line exit recorded is_yes = absurd (not_no exit recorded.3 is_yes)

pub compared_by : (a b : Dictionary) (u : Unknown) (t : PlainTable) (found : Answer) (line : List ℕ) (exit : Exit) → IsTableAnswer a b u t found
    → (found ≡ answer.Yes → IsIncluded a b u t) → IsAnswerText t found line exit → IsComparedBy a b u t line exit
compared_by a b u t found line exit is shows recorded = (found, is, recorded, λ is_yes. shows (yes_only t found line exit recorded is_yes))
