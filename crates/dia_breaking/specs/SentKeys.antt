-- The keys of the AVPs that the sender's side may send: all that A knows, also those of which no message can hold an AVP.
use Rattle.std.specs.Prelude.{◌≡◌, ◌≤◌, Bool, not, List, [], ◌∷◌, ◌++◌, map, filter, None, is_some, IsSome, Contains}
use Rattle.dia_wire.specs.declared.Key.{Key}
use Rattle.dia_book.specs.Dictionary.{Dictionary, entry_of}
use Rattle.dia_terms.specs.declared.Sends.{Sends}
use Rattle.dia_terms.specs.declared.Sends.TheVariants.{Any, Known, Filled, Listed}

-- neither dictionary knows the key
abbrev pub IsStrange : Dictionary → Dictionary → Key → Type 0
IsStrange da db key = (entry_of da key ≡ None) × (entry_of db key ≡ None)

-- each key that the dictionary knows is one of these
abbrev pub HasKeys : Dictionary → List Key → Type 0
HasKeys d keys = (key : Key) → IsSome (entry_of d key) → Contains keys key

-- those that A knows, and where its side sends any those that B knows, and a strange one without vendor
pub record AreSentKeys (da db : Dictionary) (who : Sends) (keys : List Key) : Type 0 where
  pub own : HasKeys da keys
  pub others : who ≡ Any → HasKeys db keys
  pub strange : who ≡ Any → (key : Key) × Contains keys key × IsStrange da db key × (key.vendor ≡ 0)

-- ---- exactly these

-- of the strange keys without vendor that with the least code
pub record IsStranger (da db : Dictionary) (key : Key) : Type 0 where
  pub strange : IsStrange da db key
  pub vendor : key.vendor ≡ 0
  pub least : (other : Key) → IsStrange da db other → other.vendor ≡ 0 → key.code ≤ other.code

-- the keys that a dictionary knows, in its order
abbrev pub entry_keys : Dictionary → List Key
entry_keys d = map (λ e. e.key) d.entries

abbrev pub is_unknown : Dictionary → Key → Bool
is_unknown d key = not (is_some (entry_of d key))

-- those that B alone knows, in B's order
abbrev pub keys_of_b_alone : Dictionary → Dictionary → List Key
keys_of_b_alone da db = filter (is_unknown da) (entry_keys db)

-- the keys of the AVPs that A's side may send, in the order of their lines: those that A knows; and where it sends any, those
-- that B alone knows, and the stranger
abbrev pub AreSentInOrder : Dictionary → Dictionary → Sends → List Key → Type 0
AreSentInOrder da db Any keys = (stranger : Key) × IsStranger da db stranger × (keys ≡ (entry_keys da ++ keys_of_b_alone da db) ++ stranger ∷ [])
AreSentInOrder da db Known keys = keys ≡ entry_keys da
AreSentInOrder da db Filled keys = keys ≡ entry_keys da
AreSentInOrder da db Listed keys = keys ≡ entry_keys da
