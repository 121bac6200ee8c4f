-- An AVP is placed in its level by the rules of the definition that was looked up.
use Rattle.std.proofs.Common.{◌≡◌, ℕ, ◌-◌, ◌<◌, ◌≤◌, List, [], ◌∷◌, ◌++◌, length, map, Option, Some, None, refl, sym, ap, subst, ◌∙◌, arith, inl, inr, get_or}
use Rattle.std.specs.Prelude.{slice_get, IfSome, ◌⊎◌}
use Rattle.std.proofs.lemmas.Option.{same_Some, slice_get_cases}
use Rattle.dia_wire.specs.declared.Key.{Key}
use Rattle.dia_book.specs.declared.DRule.{DRule}
use Rattle.dia_book.specs.declared.Definition.{Definition}
use Rattle.dia_book.specs.declared.Slot.{Slot}
use Rattle.dia_book.specs.Dictionary.{AreRules, Dictionary, IsDictionary, PlainDefinition, definitions, plain_definition, slot_of}
use Rattle.dia_book.specs.Shapes.{IsShape}
use Rattle.dia_valid.specs.Valid.{fixed_rules}
use Rattle.dia_valid.specs.LongestRuns.{met, IsAt}
use Rattle.dia_valid.proofs.Entries.{fixed_few, kept_rules}
use Rattle.dia_check.specs.declared.open_levels.Wrong.{Wrong}
use Rattle.dia_check.specs.OpenLevels.{Leads}
use Rattle.dia_check.specs.Recording.{recorded}
use Rattle.dia_check.proofs.KeysByCounts.{met_few}
use Rattle.dia_check.proofs.OneKeyMore.{at_within}
use Rattle.dia_faults.specs.declared.collector.Collector.{Collector}
use Rattle.dia_faults.specs.Collecting.{Adds}
use Rattle.dia_faults.specs.Rules.{AreMissingAtEnd, ArePlaced, IsMisput, missing_between, missing_from}
use Rattle.dia_faults.specs.States.{HasRules, IsCounted, count_of}
use Rattle.dia_faults.proofs.Collecting.{adds_wrongs}
use Rattle.dia_faults.proofs.Missing.{missing_same}

-- ---- the definition

module _ (d : Dictionary) (sound : IsDictionary d) (def : ℕ) (definition : Definition) (at : slice_get (definitions d) def ≡ Some (plain_definition definition))
    (rules : List DRule) (is : rules ≡ definition.rules.items) where
  pub same_rules : (others : List DRule) → HasRules d def others → others ≡ rules
  same_rules others has =
      sym has.is_rules ∙ ap (λ (x : PlainDefinition). x.rules) (same_Some has.definition (plain_definition definition) (sym has.is_definition ∙ at)) ∙ sym is

  pub are_rules : AreRules rules
  are_rules = subst AreRules (sym is) (kept_rules d def (plain_definition definition) sound at)

  pub is_shape : IsShape rules definition.shape
  is_shape = subst (λ (rs : List DRule). IsShape rs definition.shape) (sym is) definition.shaped

  pub is_slot : (key : Key) (slot : Slot) → IfSome (slice_get (definitions d) def) (λ x. slot ≡ slot_of x.rules key) → slot ≡ slot_of rules key
  is_slot key slot h =
      subst (λ (o : Option PlainDefinition). IfSome o (λ x. slot ≡ slot_of x.rules key)) at h ∙ ap (λ (rs : List DRule). slot_of rs key) (sym is)

  -- where a key leads, by the definition that was looked up
  pub leads_of : (counts : List (ℕ × ℕ)) (start run : ℕ) (key : Key) (slot : Slot) (found : ℕ × Option ℕ) → IfSome (slice_get (definitions d) def) (λ x. slot ≡ slot_of x.rules key)
      → ((rs : List DRule) (keys : List Key) (k : Key) → AreRules rs → IsShape rs definition.shape → IsAt (fixed_rules rs) run keys → slot ≡ slot_of rs k → Leads rs keys k run found.0 found.1)
      → (others : List DRule) (keys : List Key) → HasRules d def others → IsCounted counts start run others keys
      → Leads rules keys key run found.0 found.1 × IsCounted counts start run rules keys
  leads_of counts start run key slot found at_slot leads others keys has counted =
      let c = subst (λ (rs : List DRule). IsCounted counts start run rs keys) (same_rules others has) counted in
      (leads rules keys key are_rules is_shape c.ends (is_slot key slot at_slot), c)

  pub runs_within : (keys : List Key) (key : Key) (run next : ℕ) (o : Option ℕ) → Leads rules keys key run next o → (run ≤ length rules) × (next ≤ length rules)
  runs_within keys key run next o leads = let few = fixed_few rules in (omega (arith, leads.within.1, few), omega (arith, leads.within.0, few))

-- ---- an AVP and the end

abbrev pub Judged : Collector → Collector → ℕ → List (ℕ × ℕ) → ℕ → ℕ → List DRule → List Key → Key → Type 0
Judged old new at counts start run rules keys key =
    ((wrongs : List Wrong) × ArePlaced rules keys key wrongs × Adds old new (map (recorded at) wrongs)) × IsCounted counts start run rules (keys ++ key ∷ [])

module _ (at start : ℕ) (old : List (ℕ × ℕ)) (rules : List DRule) where
  abbrev pub Counting : ℕ → DRule → ℕ
  Counting i rule = count_of old start i

  -- what was missing by the counts is missing by the keys
  pub by_keys : (before after : Collector) (keys : List Key) (run from n : ℕ) → IsCounted old start run rules keys
      → Adds before after (map (recorded at) (missing_from (λ i rule. count_of old start i) rules from n)) → Adds before after (map (recorded at) (missing_from (met rules keys) rules from n))
  by_keys before after keys run from n c added =
      subst (λ (ws : List Wrong). Adds before after (map (recorded at) ws))
      (missing_same (λ (i : ℕ) (rule : DRule). count_of old start i) (met rules keys) rules from n (λ j rule here. c.counted j rule here)) added

  pub judged : (first second third : Collector) (new : List (ℕ × ℕ)) (keys : List Key) (key : Key) (run next : ℕ) (o : Option ℕ) → Leads rules keys key run next o
      → IsCounted old start run rules keys → IsCounted new start next rules (keys ++ key ∷ [])
      → Adds first second (map (recorded at) (missing_from (λ i rule. count_of old start i) rules run (next - run)))
      → (misput : List Wrong) → IsMisput rules keys key misput → Adds second third (map (recorded at) misput) → Judged first third at new start next rules keys key
  judged first second third new keys key run next o leads c counted missed misput is_misput added = (
    (
      missing_between rules keys run next ++ misput,
      record { from = run; to = next; is_from = c.ends; is_to = leads.at; misput = misput; is_misput = is_misput; parts = refl },
      adds_wrongs at first second third (missing_between rules keys run next) misput (by_keys first second keys run run (next - run) c missed) added,
    ),
    counted,
  )

  pub ended : (first second : Collector) (keys : List Key) (run : ℕ) → IsCounted old start run rules keys
      → Adds first second (map (recorded at) (missing_from (λ i rule. count_of old start i) rules run (length rules - run)))
      → (wrongs : List Wrong) × AreMissingAtEnd rules keys wrongs × Adds first second (map (recorded at) wrongs)
  ended first second keys run c missed = (
    missing_between rules keys run (length rules),
    record { from = run; is_from = c.ends; parts = refl },
    by_keys first second keys run run (length rules - run) c missed,
  )

-- the run that keys end in
pub start_within : (rules : List DRule) (keys : List Key) (run : ℕ) → IsAt (fixed_rules rules) run keys → run ≤ length rules
start_within rules keys run ends = omega (arith, at_within (fixed_rules rules) run keys ends, fixed_few rules)

-- what is counted of a rule is no more than there are keys
pub few_counted : (counts : List (ℕ × ℕ)) (start run : ℕ) (rules : List DRule) (keys : List Key) → IsCounted counts start run rules keys → (i : ℕ) → i < length rules → length keys < 4294967295
    → count_of counts start i < 4294967295
few_counted counts start run rules keys c i lt few = by (slice_get_cases rules i).1
  where
    by : ((x : DRule) × (i < length rules) × (slice_get rules i ≡ Some x) × (get_or rules i x ≡ x)) ⊎ ((length rules ≤ i) × (slice_get rules i ≡ None)) → count_of counts start i < 4294967295
    by (inl (rule, lt', at, got)) = let e = c.counted i rule at in let most = met_few rules keys i rule in omega (arith, e, most, few)
    by (inr (le, none)) = absurd (omega (arith, le, lt))
