-- A proposed table can be written: its names are names of the two dictionaries.
use Rattle.std.proofs.Common.{◌≡◌, ℕ, zero, suc, ◌+◌, ◌≤◌, List, [], ◌∷◌, ◌++◌, length, map, refl, sym, subst, inl, inr, arith}
use Rattle.std.specs.Prelude.{IsTrue, Contains, nat_le, not, codes, ◌&&◌}
use Rattle.std.specs.List.{AllByRecursion}
use Rattle.std.proofs.lemmas.Bool.{and_parts, leb-true}
use Rattle.std.proofs.lemmas.List.Elements.{All-contains}
use Rattle.dia_terms.specs.Limits.{max_name}
use Rattle.dia_terms.specs.Names.{is_name, is_name_run, same_bytes}
use Rattle.dia_book.specs.Dictionary.{Dictionary, DictEntry, PlainDefinition, IsDictionary}
use Rattle.dia_terms.specs.declared.Unknown.{Unknown}
use Rattle.dia_compat.specs.TableText.{PlainTable, HasShortNames, most_pairs}
use Rattle.dia_compat.specs.WrittenTable.{AreNames, IsWritable}
use Rattle.dia_compat.specs.Closed.{NamesEntry}
use Rattle.dia_compat.specs.Proposed.{AreBeside, AreCommandPairs, IsProposal}
use Rattle.dia_compat.proofs.CommandPairs.{wanted_in}
use Rattle.dia_valid.proofs.Members.{all_in, contains_in, IsIn, all_map, all_append}

abbrev NamePair : Type 0
NamePair = List ℕ × List ℕ

-- both are names of a dictionary
abbrev HasNames : NamePair → Type 0
HasNames p = IsTrue (is_name p.0) × IsTrue (is_name p.1)

name_parts : (name : List ℕ) → IsTrue (is_name name) → IsTrue (is_name_run name) × (length name ≤ max_name)
name_parts name h =
    let p = and_parts (is_name_run name && nat_le (length name) max_name) (not (same_bytes name (codes "AVP"))) h in
    let q = and_parts (is_name_run name) (nat_le (length name) max_name) p.0 in
    (q.0, leb-true (length name) max_name q.1)

are_names : (p : NamePair) → HasNames p → AreNames p
are_names p h = ((name_parts p.0 h.0).0, (name_parts p.1 h.1).0)

are_short : (p : NamePair) → HasNames p → HasShortNames p
are_short p h = ((name_parts p.0 h.0).1, (name_parts p.1 h.1).1)

named_entry : (d : Dictionary) (name : List ℕ) (e : DictEntry) → IsDictionary d → NamesEntry d name e → IsTrue (is_name name)
named_entry d name e sound n = subst (λ (t : List ℕ). IsTrue (is_name t)) n.1 (All-contains (λ (x : DictEntry). IsTrue (is_name x.name)) d.entries e sound.entry_names n.0)

listed_command : (d : Dictionary) (c : PlainDefinition) → IsDictionary d → Contains d.commands c → IsTrue (is_name c.name)
listed_command d c sound h = All-contains (λ (x : PlainDefinition). IsTrue (is_name x.name)) d.commands c sound.command_names h

alone_in : (x y : List ℕ) → Contains (x ∷ []) y → x ≡ y
alone_in x y (zero, within, is) = is
alone_in x y (suc k, within, is) = absurd (omega (arith, within))

module _ (da db : Dictionary) (sa : IsDictionary da) (sb : IsDictionary db) where
  beside_named : (c : PlainDefinition) (names : List (List ℕ)) → Contains da.commands c → AreBeside da db c names → (b : List ℕ) → Contains names b → IsTrue (is_name b)
  beside_named c names listed are b at =
      elim (are.only b at) [
        | inl (d, wanted, is) ↦ subst (λ (t : List ℕ). IsTrue (is_name t)) is (listed_command db d sb (wanted_in da db c d wanted))
        | inr none ↦ subst (λ (t : List ℕ). IsTrue (is_name t)) (alone_in c.name b (subst (λ (ns : List (List ℕ)). Contains ns b) (are.alone none) at)) (listed_command da c sa listed)
      ]

  pairs_named : (name : List ℕ) (names : List (List ℕ)) → IsTrue (is_name name) → ((b : List ℕ) → IsIn b names → IsTrue (is_name b)) → AllByRecursion HasNames (map (λ b. (name, b)) names)
  pairs_named name [] first each = tt
  pairs_named name (b ∷ names) first each = ((first, each b (inl refl)), pairs_named name names first (λ c i. each c (inr i)))

  commands_named : (earlier names : List (List ℕ)) (pairs : List NamePair) → AreCommandPairs da db earlier names pairs → AllByRecursion HasNames pairs
  commands_named earlier [] pairs none = subst (AllByRecursion HasNames) (sym none) tt
  commands_named earlier (name ∷ names) pairs (inl (known, more)) = commands_named earlier names pairs more
  commands_named earlier (name ∷ names) pairs (inr (fresh, c, beside, rest, named, are, parts, more)) =
      let first : IsTrue (is_name name) = subst (λ (t : List ℕ). IsTrue (is_name t)) named.1 (listed_command da c sa named.0) in
      let all = pairs_named name beside first (λ b i. beside_named c beside named.0 are b (contains_in beside b i)) in
      subst (AllByRecursion HasNames) (sym parts) (all_append HasNames (map (λ b. (name, b)) beside) rest all (commands_named (earlier ++ name ∷ []) names rest more))

  pub writable : (u : Unknown) (names : List (List ℕ)) (table : PlainTable) → IsProposal da db u names table → length table.commands + length table.avps ≤ most_pairs → IsWritable table
  writable u names table proposal few =
      let commands = commands_named [] names table.commands proposal.commands in
      let avps = all_in HasNames table.avps (λ p i. let r = (proposal.avps.each p).0 (contains_in table.avps p i) in (named_entry da p.0 r.0 sa r.2, named_entry db p.1 r.1 sb r.3)) in
      record {
        commands = all_map HasNames AreNames are_names table.commands commands;
        avps = all_map HasNames AreNames are_names table.avps avps;
        limits = (few, all_map HasNames HasShortNames are_short table.commands commands, all_map HasNames HasShortNames are_short table.avps avps);
      }
