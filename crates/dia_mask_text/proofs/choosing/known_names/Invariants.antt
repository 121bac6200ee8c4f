use Rattle.std.proofs.Common.{◌≡◌, ℕ, List, take}
use Rattle.std.specs.HashMap.{get_by}
use Rattle.std.specs.Str.{bytes_eq}
use Rattle.dia_mask_text.specs.Names.{replaceable_in}
use Rattle.dia_mask_text.proofs.choosing.known_names.Given as goal

abbrev pub invariant-loop-index : goal.invariant-loop-index
invariant-loop-index g l = (q : List ℕ) → get_by (λ k. bytes_eq q k.now) l.known ≡ replaceable_in (take l.index (g.B.Book.meaning l.book).entries) q
