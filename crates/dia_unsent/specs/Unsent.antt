-- The AVPs of a dictionary that no message has that is sent, and whether the other side would refuse them.
use Rattle.std.specs.Prelude.{◌≡◌, ℕ, zero, suc, Bool, if◌then◌else◌, List, [], ◌∷◌, ◌++◌, length, Some, slice_get, string_bytes}
use Rattle.dia_terms.specs.declared.Sends.{Sends}
use Rattle.dia_book.specs.Dictionary.{Dictionary, DictEntry}
use Rattle.dia_lint.specs.Held.{AreHeld, held_at}
use Rattle.dia_breaking.specs.Lengths.{Costs}
use Rattle.dia_breaking.specs.Refusals.{IsRefusal}
use Rattle.dia_breaking.specs.Sides.{Sides}
use Rattle.dia_unsent.specs.declared.unsent.Unsent.{Unsent}

-- the places below n that aren't said to be held, in order
abbrev pub unheld : List Bool → ℕ → List ℕ
unheld held zero = []
unheld held (suc n) = if held_at held n then unheld held n else (unheld held n ++ n ∷ [])

-- the places of the AVPs that no message has that the side sends, in the dictionary's order
abbrev pub AreUnsent : Dictionary → Sends → List ℕ → Type 0
AreUnsent d who entries = (held : List Bool) × AreHeld d who held × (entries ≡ unheld held (length d.entries))

-- it has its entry's name, and would break where B refuses AVPs of its key
abbrev pub Describes : Sides → Costs → Unsent → Type 0
Describes s k avp = (e : DictEntry) × (slice_get s.sender.entries avp.entry ≡ Some e) × (string_bytes avp.name ≡ e.name) × IsRefusal s k e.key avp.would_break
