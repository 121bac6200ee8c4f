-- Names of AVPs that are looked up.
use Rattle.std.specs.Prelude.{◌≡◌, ℕ, Bool, List, map, Option}
use Rattle.std.specs.Borrow.{Bor}
use Rattle.std.specs.HashMap.{HashMap, get_by}
use Rattle.std.specs.HashSet.{contains_by}
use Rattle.std.specs.Option.{option_map}
use Rattle.std.specs.Str.{bytes_eq}
use Rattle.dia_dict.specs.Dictionary.{Dictionary}
use Rattle.dia_mask_text.specs.declared.choosing.BadName.{BadName}
use Rattle.dia_mask_text.specs.declared.choosing.NameList.{NameList}
use Rattle.dia_mask_text.specs.declared.choosing.NameLists.{NameLists}
use Rattle.dia_mask_text.specs.declared.choosing.Why.{Why}
use Rattle.dia_mask_text.specs.Names.{Lists, is_listed, names_of, replaceable_in}

abbrev pub texts : List (Bor (List ℕ)) → List (List ℕ)
texts names = map (λ name. name.now) names

-- the names of a list, in their order and as a set
pub record IsNameList (list : Option (List ℕ)) (names : NameList) : Type 0 where
  pub are_names : texts names.names.items ≡ names_of list
  pub is_set : (q : List ℕ) → contains_by (λ k. bytes_eq q k.now) names.set ≡ is_listed list q

pub record AreNameLists (l : Lists) (names : NameLists) : Type 0 where
  pub keep : IsNameList l.keep names.keep
  pub mask : IsNameList l.mask names.mask
  pub only : IsNameList l.only names.only

-- the AVPs of a dictionary by their names
abbrev pub AreKnown : {S : Type 0} → Dictionary → HashMap (Bor (List ℕ)) Bool S → Type 0
AreKnown d known = (q : List ℕ) → get_by (λ k. bytes_eq q k.now) known ≡ replaceable_in d.entries q

-- a name that is refused, and why
abbrev pub fault_of : Option BadName → Option (List ℕ × Why)
fault_of bad = option_map (λ b. (b.name.now, b.why)) bad
