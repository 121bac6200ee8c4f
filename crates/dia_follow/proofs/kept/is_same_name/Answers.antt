use Rattle.std.proofs.Common.{◌≡◌, ℕ, Bool, true, false, List, map, refl, sym, ◌∙◌}
use Rattle.std.specs.Prelude.{IsTrue}
use Rattle.std.specs.Char.{to_ascii_lowercase}
use Rattle.std.specs.Str.{bytes_eq}
use Rattle.dia_follow.proofs.kept.is_same_name.Goals as goal
use lib.Pointwise.{bytes_decides}

by_test : (a b : List ℕ) (r e : Bool) → (IsTrue r → a ≡ b) → (a ≡ b → IsTrue r) → bytes_eq a b ≡ e → r ≡ e
by_test a b true true h k is = refl
by_test a b false false h k is = refl
by_test a b true false h k is = absurd (let t = (bytes_decides a b).1 (h refl) in let f : false ≡ true = sym is ∙ t in cc)
by_test a b false true h k is = let f : false ≡ true = k ((bytes_decides a b).0 is) in absurd cc

pub returns : goal.returns
returns c = by_test (map to_ascii_lowercase c.args.one.now) (map to_ascii_lowercase c.args.other.now) c.eq_ignore_ascii_case.result _ c.eq_ignore_ascii_case.ensures.test.0 c.eq_ignore_ascii_case.ensures.test.1 refl
