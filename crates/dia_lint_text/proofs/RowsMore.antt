-- One row more.
use Rattle.std.proofs.Common.{◌≡◌, ℕ, zero, suc, ◌+◌, Bool, true, false, cond, List, [], ◌∷◌, ◌++◌, filter, map, take, Some, refl, ap, ◌∙◌, arith}
use Rattle.std.specs.Prelude.{if◌then◌else◌, slice_get}
use Rattle.std.specs.List.{enumerate_from}
use Rattle.std.proofs.lemmas.List.{map-append}
use Rattle.std.proofs.lemmas.List.Elements.{filter-append}
use Rattle.std.proofs.lemmas.Option.{none-some, same_Some}
use Rattle.dia_book.specs.Dictionary.{Dictionary}
use Rattle.dia_ccf.specs.declared.source.Source.{Source}
use Rattle.dia_ccf.specs.declared.source.Def.{Def}
use Rattle.dia_lint.specs.declared.finding.Finding.{Finding}
use Rattle.dia_lint.specs.declared.rule.Rule.{Rule}
use Rattle.dia_lint_text.specs.Rows.{PlainRow, row_of, rows_among}
use Rattle.dia_valid.proofs.Members.{taken}

numbered : (xs : List Finding) (n i : ℕ) (x : Finding) → slice_get xs i ≡ Some x → slice_get (enumerate_from n xs) i ≡ Some (n + i, x)
numbered [] n i x at = absurd (none-some x at)
numbered (y ∷ xs) n zero x at = ap (λ (z : ℕ × Finding). Some z) (λ k. ((let e : n ≡ n + 0 = omega arith in e) k, same_Some y x at k))
numbered (y ∷ xs) n (suc i) x at = numbered xs (n + 1) i x at ∙ ap (λ m. Some (m, x)) (let e : n + 1 + i ≡ n + suc i = omega arith in e)

pub rows_more : (is : Rule → Bool) (d : Dictionary) (source : Source) (groups : List Def) (text : List ℕ) (found : List Finding) (i : ℕ) (x : Finding) → slice_get found i ≡ Some x
    → rows_among is d source groups text (take (i + 1) (enumerate_from 0 found))
    ≡ rows_among is d source groups text (take i (enumerate_from 0 found)) ++ (if is x.rule then row_of d source groups text (i, x) ∷ [] else [])
rows_more is d source groups text found i x at =
    ap (rows_among is d source groups text) (taken (enumerate_from 0 found) i (i, x) (numbered found 0 i x at ∙ ap (λ n. Some (n, x)) (let e : 0 + i ≡ i = omega arith in e)))
    ∙ ap (map row) (filter-append asked (take i (enumerate_from 0 found)) ((i, x) ∷ []))
    ∙ map-append row (filter asked (take i (enumerate_from 0 found))) (filter asked ((i, x) ∷ []))
    ∙ ap (λ rs. rows_among is d source groups text (take i (enumerate_from 0 found)) ++ rs) (one (is x.rule))
  where
    row : ℕ × Finding → PlainRow
    row = row_of d source groups text

    asked : ℕ × Finding → Bool
    asked = λ p. is p.1.rule

    one : (b : Bool) → map row (cond b ((i, x) ∷ []) []) ≡ (if b then row (i, x) ∷ [] else [])
    one true = refl
    one false = refl
