-- What `lint` is asked for.
use Rattle.std.proofs.Common.{◌≡◌}
use Rattle.dia_lint_text.specs.Asking.{Question}

pub same_question : (q p : Question) → q.unknown ≡ p.unknown → q.only ≡ p.only → q.except ≡ p.except → q.json ≡ p.json → q.file ≡ p.file → q ≡ p
same_question q p u o e j f i = record { unknown = u i; only = o i; except = e i; json = j i; file = f i }
