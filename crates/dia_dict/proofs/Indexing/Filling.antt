-- Maps of a dictionary, which get the next row, command or rule.
use Rattle.std.proofs.Common.{◌≡◌, ℕ, ◌+◌, ◌<◌, Bool, false, cond, List, length, take, get_or, position, Option, Some, None, sym, ap, ◌∙◌, unwrap_or}
use Rattle.std.specs.Option.{option_map, option_map_or}
use Rattle.dia_wire.specs.declared.Key.{Key}
use Rattle.dia_book.specs.Keys.{same_key}
use Rattle.dia_book.specs.Dictionary.{lists_key, slot_at}
use Rattle.dia_book.specs.declared.Definition.{Definition}
use Rattle.dia_book.specs.declared.DRule.{DRule}
use Rattle.dia_book.specs.declared.Slot.{Slot}
use Rattle.dia_book.proofs.SameKeys.{same_key-true, same_key-symm}
use Rattle.dia_dict.specs.declared.entry_list.Row.{Row}
use Rattle.dia_dict.specs.declared.selectors.Selector.{Selector}
use Rattle.dia_dict.specs.Selectors.{selector_of}
use Rattle.dia_dict.specs.SameSelectors.{same_selector, same_selector-symm, same_selector-true}
use Rattle.dia_dict.proofs.Indexing.Maps.{given-kept, given-none}

-- a key keeps the value that it has
abbrev pub Keeps : {K V : Type 0} → (K → K → Bool) → (K → Option V) → K → V → (K → Option V) → Type 0
Keeps {K} eq before own value after = (key : K) → after key ≡ cond (eq own key) (Some (unwrap_or (before own) value)) (before key)

abbrev pub row_given : List Row → ℕ → Key → Option ℕ
row_given rows n key = option_map (λ (i : ℕ). i) (position (λ (row : Row). same_key key row.key) (take n rows))

pub row_given-more : (rows : List Row) (i : ℕ) (d : Row) (v : ℕ) (before after : Key → Option ℕ) → i < length rows → d ≡ get_or rows i d → v ≡ i
    → ((key : Key) → before key ≡ row_given rows i key) → Keeps same_key before d.key v after → (key : Key) → after key ≡ row_given rows (i + 1) key
row_given-more rows i d v before after within read is h step =
    given-kept same_key (λ (key : Key) (row : Row). same_key key row.key) (λ (k : ℕ). k) rows i d within d.key before after
    (λ key. same_key-symm key (get_or rows i d).key ∙ ap (λ (row : Row). same_key row.key key) (sym read)) (same_key-true d.key) h
    (λ key. step key ∙ ap (λ (w : ℕ). cond (same_key d.key key) (Some (unwrap_or (before d.key) w)) (before key)) is)

abbrev pub command_given : List Definition → ℕ → ℕ → Selector → Option ℕ
command_given commands groups n selector = option_map (λ (i : ℕ). groups + i) (position (λ (d : Definition). same_selector selector (selector_of d.head)) (take n commands))

pub command_given-more : (commands : List Definition) (groups i : ℕ) (d : Definition) (own : Selector) (v : ℕ) (before after : Selector → Option ℕ) → i < length commands
    → d ≡ get_or commands i d → own ≡ selector_of d.head → v ≡ groups + i
    → ((s : Selector) → before s ≡ command_given commands groups i s) → Keeps same_selector before own v after → (s : Selector) → after s ≡ command_given commands groups (i + 1) s
command_given-more commands groups i d own v before after within read of is h step =
    given-kept same_selector (λ (s : Selector) (e : Definition). same_selector s (selector_of e.head)) (λ (k : ℕ). groups + k) commands i d within own before after
    (λ s. same_selector-symm s (selector_of (get_or commands i d).head) ∙ ap (λ (t : Selector). same_selector t s) (sym (of ∙ ap (λ (e : Definition). selector_of e.head) read)))
    (same_selector-true own) h
    (λ s. step s ∙ ap (λ (w : ℕ). cond (same_selector own s) (Some (unwrap_or (before own) w)) (before s)) is)

abbrev pub slot_given : List DRule → ℕ → Key → Option Slot
slot_given rules n key = option_map (slot_at rules) (position (lists_key key) (take n rules))

module _ (read rules : List DRule) (same : read ≡ rules) (i : ℕ) (d : DRule) (within : i < length rules) where
  key_read : (o : Option Key) → (get_or read i d).key ≡ o → (get_or rules i d).key ≡ o
  key_read o h = ap (λ (rs : List DRule). (get_or rs i d).key) (sym same) ∙ h

  pub slot_given-more : (own : Key) (v : Slot) (before after : Key → Option Slot) → (get_or read i d).key ≡ Some own → v ≡ slot_at rules i
      → ((key : Key) → before key ≡ slot_given rules i key) → Keeps same_key before own v after → (key : Key) → after key ≡ slot_given rules (i + 1) key
  slot_given-more own v before after listed is h step =
      given-kept same_key lists_key (slot_at rules) rules i d within own before after
      (λ key. ap (λ (o : Option Key). option_map_or (same_key key) o false) (key_read (Some own) listed) ∙ same_key-symm key own) (same_key-true own) h
      (λ key. step key ∙ ap (λ (w : Slot). cond (same_key own key) (Some (unwrap_or (before own) w)) (before key)) is)

  -- the wildcard is no key's
  pub slot_given-wildcard : (get_or read i d).key ≡ None → (key : Key) → slot_given rules i key ≡ slot_given rules (i + 1) key
  slot_given-wildcard none key =
      given-none same_key lists_key (slot_at rules) rules i d within key (ap (λ (o : Option Key). option_map_or (same_key key) o false) (key_read None none))
