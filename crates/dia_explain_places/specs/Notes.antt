-- Diagnostics as they grow.
use Rattle.std.specs.Prelude.{◌≡◌, ℕ, List, ◌++◌, Option, Some, None, IfSome}

-- the text of a diagnostic, unless an allocation failed
abbrev pub held : {A : Type 0} → Option A → List ℕ → Option (List ℕ)
held None text = Some text
held (Some refusal) text = None

-- a diagnostic has gained a text, or an allocation failed. A failure is final
abbrev pub Gains : Option (List ℕ) → Option (List ℕ) → List ℕ → Type 0
Gains None new text = new ≡ None
Gains (Some before) new text = IfSome new (λ now. now ≡ before ++ text)
