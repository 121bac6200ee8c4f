-- Which AVPs are masked by the lists of names, and which names are refused (our profile).
use Rattle.std.specs.Prelude.{◌≡◌, ℕ, ◌==◌, Bool, true, false, not, ◌&&◌, ◌||◌, if◌then◌else◌, List, [], ◌∷◌, ◌++◌, length, find, Option, Some, None, slice_get, codes}
use Rattle.std.specs.List.{filter_map, list_any, slice_split}
use Rattle.std.specs.Option.{option_copied, option_map}
use Rattle.std.specs.Str.{bytes_eq}
use Rattle.dia_dict.specs.Dictionary.{Dictionary, DictEntry}
use Rattle.dia_mask.specs.declared.choice.Choice.{Choice}
use Rattle.dia_mask.specs.Choosing.{IsChosen, is_replaceable, masked_by_format}
use Rattle.dia_mask_text.specs.declared.choosing.Why.{Why}
use Rattle.dia_mask_text.specs.declared.choosing.Why.TheVariants.{Missing, Fixed, Twice}
use Rattle.dia_mask_text.specs.declared.options.Options.{Options}

-- the lists of names: AVPs that stay, that are masked, too, and that are masked alone
pub record Lists : Type 0 where
  pub keep : Option (List ℕ)
  pub mask : Option (List ℕ)
  pub only : Option (List ℕ)

abbrev pub lists : Options → Lists
lists o = record { keep = option_copied o.keep; mask = option_copied o.mask; only = option_copied o.only }

-- the names of a list, if there is one, with commas (44) between them
abbrev pub names_of : Option (List ℕ) → List (List ℕ)
names_of None = []
names_of (Some list) = slice_split (λ b. b == 44) list

abbrev pub is_listed : Option (List ℕ) → List ℕ → Bool
is_listed list name = list_any (bytes_eq name) (names_of list)

-- the name of all AVPs that the dictionary doesn't know; no AVP of a dictionary has it
abbrev pub unknown_name : List ℕ
unknown_name = codes "AVP"

-- ---- the choice

-- AVPs of this name are masked, which their format masks or not: those of `only` where it has names, else those that their format or `mask` masks, but for those of `keep`
abbrev pub is_masked_by : Lists → Bool → List ℕ → Bool
is_masked_by l by_format name = if length (names_of l.only) == 0 then (by_format || is_listed l.mask name) && not (is_listed l.keep name) else is_listed l.only name

abbrev pub masks_entry : Lists → DictEntry → Bool
masks_entry l e = is_masked_by l (masked_by_format e) e.name

abbrev pub masks_unknown : Lists → Bool
masks_unknown l = is_masked_by l true unknown_name

-- ---- names that are refused

-- whether other data can take the place of those of the AVP with a name, if there is one
abbrev pub replaceable_in : List DictEntry → List ℕ → Option Bool
replaceable_in entries name = option_map (λ e. is_replaceable e.format) (find (λ e. bytes_eq name e.name) entries)

abbrev pub why_not : Option Bool → Option Why
why_not None = Some Missing
why_not (Some false) = Some Fixed
why_not (Some true) = None

-- why a name is refused: no AVP of the dictionary has it, or no other data can take the place of those of its AVP
abbrev pub fault_in : Dictionary → List ℕ → Option Why
fault_in d name = if bytes_eq name unknown_name then None else why_not (replaceable_in d.entries name)

-- why a name of AVPs to be masked is: they are to stay
abbrev pub fault_by : Option (List ℕ) → List ℕ → Option Why
fault_by keep name = if is_listed keep name then Some Twice else None

-- those of the names that have a fault, each with it
abbrev pub with_faults : (List ℕ → Option Why) → List (List ℕ) → List (List ℕ × Why)
with_faults fault names = filter_map (λ name. option_map (λ why. (name, why)) (fault name)) names

abbrev pub refused_names : Lists → Dictionary → List (List ℕ × Why)
refused_names l d = with_faults (fault_in d) (names_of l.only ++ names_of l.keep ++ names_of l.mask) ++ with_faults (fault_by l.keep) (names_of l.mask)

-- the one that is reported
abbrev pub first_refused : Lists → Dictionary → Option (List ℕ × Why)
first_refused l d = slice_get (refused_names l d) 0

-- ---- both

-- no name is refused, and the choice is that of the lists
pub record IsChoice (l : Lists) (d : Dictionary) (choice : Choice) : Type 0 where
  pub none_refused : first_refused l d ≡ None
  pub chosen : IsChosen (masks_entry l) (masks_unknown l) d choice
