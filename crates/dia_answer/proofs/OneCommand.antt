-- A dictionary with one command for all error messages is a dictionary.
use Rattle.std.proofs.Common.{◌≡◌, ℕ, suc, zero, ◌<◌, ◌≤◌, true, false, List, [], ◌∷◌, length, Some, ⊎_elim, refl, sym, ap, ◌∙◌, subst, arith}
use Rattle.std.specs.Prelude.{slice_get, IsSome, IfSome, IsTrue, Contains}
use Rattle.std.proofs.lemmas.Option.{none-some, same_Some, slice_get_within, get_or_from_slice_get}
use Rattle.dia_wire.specs.declared.Key.{Key}
use Rattle.dia_terms.specs.Names.{is_name}
use Rattle.dia_book.specs.declared.DRule.{DRule}
use Rattle.dia_book.specs.Dictionary.{Dictionary, PlainDefinition, IsDictionary, AreRules, IsCommandHead, IsLeast, is_fixed, definitions, groups, entry_of}
use Rattle.dia_book.proofs.Members.{All-from_places, at_Contains, at_append, into_left}
use Rattle.dia_dict.proofs.Indexing.Selectors.{All-at}
use Rattle.dia_answer.specs.Dictionaries.{alone, any_command, any_rule}

pub Contains-at : {X : Type 0} (xs : List X) (i : ℕ) (x : X) → slice_get xs i ≡ Some x → Contains xs x
Contains-at xs i x at = (i, slice_get_within xs i x at, get_or_from_slice_get xs i x x at)

-- a list of one
pub only : {X : Type 0} (y : X) (i : ℕ) (x : X) → slice_get (y ∷ []) i ≡ Some x → (i ≡ 0) × (y ≡ x)
only y zero x at = (refl, same_Some y x at)
only y (suc i) x at = absurd (none-some x at)

not_fixed : IsTrue (is_fixed any_rule) → IsSome any_rule.key
not_fixed h = absurd (let e : false ≡ true = h in cc)

any_rules : AreRules any_command.rules
any_rules = record {
  fixed_first = ([], any_rule ∷ [], refl, refl, refl);
  distinct = λ i j a b p q e. (only any_rule i a p).0 ∙ sym (only any_rule j b q).0;
  fixed_keys = All-from_places (λ (r : DRule). IsTrue (is_fixed r) → IsSome r.key) (any_rule ∷ []) (λ i r p. subst (λ (x : DRule). IsTrue (is_fixed x) → IsSome x.key) (only any_rule i r p).1 not_fixed);
  bounds = All-from_places (λ (r : DRule). IfSome r.max (λ max. r.min ≤ max)) (any_rule ∷ []) (λ i r p. subst (λ (x : DRule). IfSome x.max (λ max. x.min ≤ max)) (only any_rule i r p).1 tt);
  least = All-from_places (λ (r : DRule). IsLeast r.kind r.min) (any_rule ∷ []) (λ i r p. subst (λ (x : DRule). IsLeast x.kind x.min) (only any_rule i r p).1 refl);
  few = omega arith;
}

module _ (d : Dictionary) (s : IsDictionary d) (some : 0 < length d.commands) where
  -- a definition is a group's, or the command's
  definition_at : (P : PlainDefinition → Type 0) → ((def : PlainDefinition) → Contains (definitions d) def → P def) → P any_command
      → (i : ℕ) (def : PlainDefinition) → slice_get (definitions (alone d)) i ≡ Some def → P def
  definition_at P group command i def at =
      ⊎_elim (λ h. group def (Contains-at (definitions d) i def (into_left (groups d) d.commands i def h)))
      (λ h. subst P (only any_command h.0 def h.2).1 command) (at_append (groups d) (any_command ∷ []) i def at)

  known : (r : DRule) (key : Key) → Contains any_command.rules r → r.key ≡ Some key → IsSome (entry_of d key)
  known r key q e =
      let m = at_Contains any_command.rules r q in
      absurd (none-some key (ap (λ (x : DRule). x.key) (only any_rule m.place r m.at).1 ∙ e))

  pub alone_is_sound : IsDictionary (alone d)
  alone_is_sound = record {
    distinct_keys = s.distinct_keys;
    distinct_names = s.distinct_names;
    distinct_commands = λ i j x y p q e. (only any_command i x p).0 ∙ sym (only any_command j y q).0;
    distinct_selectors = λ i j x y p q e. (only any_command i x p).0 ∙ sym (only any_command j y q).0;
    entry_names = s.entry_names;
    command_names = All-from_places (λ (c : PlainDefinition). IsTrue (is_name c.name)) (any_command ∷ []) (λ i x p. subst (λ (c : PlainDefinition). IsTrue (is_name c.name)) (only any_command i x p).1 refl);
    grouped = s.grouped;
    group_heads = s.group_heads;
    command_heads = All-from_places (λ (c : PlainDefinition). IsCommandHead c.head) (any_command ∷ []) (λ i x p. subst (λ (c : PlainDefinition). IsCommandHead c.head) (only any_command i x p).1 tt);
    known_keys = λ def r key p q e.
        let m = at_Contains (definitions (alone d)) def p in
        definition_at (λ def. Contains def.rules r → IsSome (entry_of d key)) (λ def h q. s.known_keys def r key h q e) (λ q. known r key q e) m.place def m.at q;
    rules = All-from_places (λ (c : PlainDefinition). AreRules c.rules) (definitions (alone d))
        (definition_at (λ def. AreRules def.rules) (λ def h. let m = at_Contains (definitions d) def h in All-at (λ (c : PlainDefinition). AreRules c.rules) (definitions d) m.place def s.rules m.at) any_rules);
    few = omega (arith, s.few, some);
  }
