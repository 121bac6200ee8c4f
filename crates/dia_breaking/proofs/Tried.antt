-- Data of a level that B reads as a leaf, where it isn't known whether B accepts all levels.
use Rattle.std.proofs.Common.{◌≡◌, ℕ, List, Option, Some, drop, sym, ap, subst, ◌∙◌, inl, inr}
use Rattle.std.specs.Prelude.{IfSome, MatchOption, ⊤}
use Rattle.std.specs.Option.{option_map}
use Rattle.dia_wire.specs.declared.Key.{Key}
use Rattle.dia_data.specs.Leaf.{IsLeaf, IsLeafAnswer}
use Rattle.dia_data.specs.Plain.{PlainFormat, Grouped}
use Rattle.dia_data.specs.declared.accept.Leaf.TheVariants.{Fine, BadLength, BadValue}
use Rattle.dia_book.specs.declared.DRule.{DRule}
use Rattle.dia_book.specs.Dictionary.{Dictionary, DictEntry, PlainDefinition}
use Rattle.dia_terms.specs.declared.Unknown.{Unknown}
use Rattle.dia_terms.specs.declared.Sends.{Sends}
use Rattle.dia_valid.specs.Valid.{Fits, IsLevel}
use Rattle.dia_data.proofs.Leaves.{leaf_fits}
use Rattle.dia_breaking_avps.specs.Breaks.{IsDataBreak}
use Rattle.dia_breaking_avps.specs.Levels.{IsUndecided}
use Rattle.dia_breaking_avps.specs.Sent.{IsAcceptedData, group_rules}
use Rattle.dia_breaking_avps.specs.declared.breaking.DataBreak.TheVariants.{Undecided}
use Rattle.dia_breaking_shortest.specs.Floors.{shortest_head}
use Rattle.dia_breaking.specs.Tried.{IsLeftOpenBy, TakesAsLeaf, data_of}
use Rattle.dia_breaking.specs.Words.{format_in}

-- ---- what a format says

-- data of a wrong length, or of a wrong value, aren't fine
pub bad_length : (format : PlainFormat) (bytes : List ℕ) → IsLeafAnswer BadLength format bytes → ¬ IsLeafAnswer Fine format bytes
bad_length format bytes bad (inl leaf) = bad (leaf_fits format bytes leaf)
bad_length format bytes bad (inr is) = subst (λ (f : PlainFormat). IsLeafAnswer BadLength f bytes) is bad tt

pub bad_value : (format : PlainFormat) (bytes : List ℕ) → IsLeafAnswer BadValue format bytes → ¬ IsLeafAnswer Fine format bytes
bad_value format bytes bad (inl leaf) = bad.1 leaf
bad_value format bytes bad (inr is) = bad.2 is

-- ---- what B accepts

module _ (da db : Dictionary) (who : Sends) (u : Unknown) (key : Key) where
  abbrev Accepts : List ℕ → Option DictEntry → Type 0
  Accepts bytes o = MatchOption o ⊤ (λ e. MatchOption e.group (IsLeaf e.format bytes) (λ group. (n : ℕ) × IsLevel (Fits db u n) group.rules bytes))

  abbrev AcceptsAs : List ℕ → DictEntry → Option PlainDefinition → Type 0
  AcceptsAs bytes e o = MatchOption o (IsLeaf e.format bytes) (λ group. (n : ℕ) × IsLevel (Fits db u n) group.rules bytes)

  abbrev Takes : List ℕ → Option DictEntry → Type 0
  Takes bytes o = IfSome (option_map (λ (e : DictEntry). e.format) o) (λ format. IsLeafAnswer Fine format bytes)

  not_grouped : (rules : List DRule) (format : PlainFormat) → IsUndecided da who rules format → ¬ (format ≡ Grouped)
  not_grouped rules format may is = subst (λ (f : PlainFormat). IsUndecided da who rules f) is may

  pub accepted_taken : IsDataBreak da db who u key Undecided → (bytes : List ℕ) → IsAcceptedData db u key bytes → TakesAsLeaf db key bytes
  accepted_taken (group, (e, is, leaf, may)) bytes accepted =
      let as_entry : AcceptsAs bytes e e.group = subst (Accepts bytes) is accepted in
      let as_leaf : IsLeaf e.format bytes = subst (AcceptsAs bytes e) leaf as_entry in
      subst (Takes bytes) (sym is) (inl as_leaf)

  pub taken_accepted : IsDataBreak da db who u key Undecided → (bytes : List ℕ) → TakesAsLeaf db key bytes → IsAcceptedData db u key bytes
  taken_accepted (group, (e, is, leaf, may)) bytes takes = by (subst (Takes bytes) is takes)
    where
      accepts : IsLeaf e.format bytes → IsAcceptedData db u key bytes
      accepts own = subst (Accepts bytes) (sym is) (let own : AcceptsAs bytes e e.group = subst (AcceptsAs bytes e) (sym leaf) own in own)

      by : IsLeafAnswer Fine e.format bytes → IsAcceptedData db u key bytes
      by (inl own) = accepts own
      by (inr grouped) = absurd (not_grouped (group_rules da key) e.format may grouped)

  pub left_open : IsDataBreak da db who u key Undecided → (bytes : List ℕ) (n : ℕ) → IsLeftOpenBy (TakesAsLeaf db key) key bytes n
      → IsLeftOpenBy (IsAcceptedData db u key) key bytes n
  left_open content bytes n (inl long) = inl long
  left_open content bytes n (inr takes) = inr (taken_accepted content (data_of key bytes) takes)

-- ---- what a try shows

-- where the dictionary has this format for AVPs of the key, and one has the bytes `least`
module _ (d : Dictionary) (key : Key) (format : PlainFormat) (has : format_in d key ≡ Some format) (head : ℕ) (bytes least : List ℕ) (head_is : head ≡ shortest_head key) (bytes_are : bytes ≡ least) where
  following : drop head bytes ≡ data_of key least
  following = ap (λ (n : ℕ). drop n bytes) head_is ∙ ap (drop (shortest_head key)) bytes_are

  abbrev FineBy : Option PlainFormat → Type 0
  FineBy o = IfSome o (λ f. IsLeafAnswer Fine f (data_of key least))

  pub takes_fine : IsLeafAnswer Fine format (drop head bytes) → TakesAsLeaf d key (data_of key least)
  takes_fine fine = subst FineBy (sym has) (subst (IsLeafAnswer Fine format) following fine)

  pub takes_none : ¬ IsLeafAnswer Fine format (drop head bytes) → ¬ TakesAsLeaf d key (data_of key least)
  takes_none bad takes = bad (subst (IsLeafAnswer Fine format) (sym following) (subst FineBy has takes))
