-- The first of all faults is the one that a check finds.
use Rattle.std.proofs.Common.{◌≡◌, ℕ, List, [], ◌∷◌, ◌++◌, length, map, Option, Some, None, refl, sym, ap, subst, arith, inl, inr}
use Rattle.std.specs.Prelude.{slice_get}
use Rattle.std.proofs.lemmas.List.{map-append}
use Rattle.dia_wire.specs.declared.Header.{Header}
use Rattle.dia_wire.specs.Wire.{PlainAvp, key_of, BeginsWith}
use Rattle.dia_book.specs.declared.DRule.{DRule}
use Rattle.dia_book.specs.Dictionary.{AreRules, Dictionary, IsDictionary, PlainDefinition, definitions, selected}
use Rattle.dia_terms.specs.declared.Unknown.{Unknown}
use Rattle.dia_terms.specs.declared.Levels.{Levels}
use Rattle.dia_valid.specs.Valid.{HasR, HasE, HasT, class_of, fixed_rules, group_at, known}
use Rattle.dia_valid.specs.LongestRuns.{met}
use Rattle.dia_valid.proofs.Entries.{kept_rules}
use Rattle.dia_check.specs.declared.open_levels.Wrong.{Wrong}
use Rattle.dia_check.specs.Faults.{HasGoodHeader, HasHeader, HasLength}
use Rattle.dia_check.specs.Walks.{Found, Rest, IsFine, Walks, following, fault_of, inside, whole}
use Rattle.dia_check.specs.Walks as walks
use Rattle.dia_check.proofs.CheckAnswers.{application_first, bits_first, command_first, proxiable_first, walk_answers}
use Rattle.dia_check.proofs.FaultlessLevels.{entry_of_group, group_rules, opens}
use Rattle.dia_faults.specs.Levels.{AreOwn, IsListing, IsOpened, at, at_end, broken_here}
use Rattle.dia_faults.specs.Levels as levels
use Rattle.dia_faults.specs.Messages.{AreAll, HasBits, HasBody, HasProxiable, IsFirstOf}
use Rattle.dia_faults.specs.Messages as messages
use Rattle.dia_faults.specs.Rules.{AreMissingAtEnd, missing_between}
use Rattle.dia_faults.specs.States.{rest_keys}
use Rattle.dia_faults.proofs.FirstMissing.{Firstly, IsFront, firstly_between, missing_at_end_first, none_missing_at_end}
use Rattle.dia_faults.proofs.FirstOwn.{OwnSays, own_says}
use Rattle.dia_faults.proofs.PassedRuns.{at_nothing}

abbrev GoodBits : Header → Type 0
GoodBits h = (HasR h.flags → ¬ HasE h.flags) × (HasT h.flags → HasR h.flags)

abbrev first_of : List Found → Option Found
first_of [] = None
first_of (f ∷ fs) = Some f

no_keys : (rules : List DRule) → IsFront rules []
no_keys rules run ends j rule lt here = let none = at_nothing (fixed_rules rules) run ends in absurd (omega (arith, lt, none))

module _ (d : Dictionary) (sound : IsDictionary d) (u : Unknown) (most : Levels) where
  abbrev Finds : Rest → List Found → Type 0
  Finds s fs = Walks d u most s (first_of fs)

  ended_finds : (s : Rest) (wrongs : List Wrong) → AreRules s.level.rules → IsFront s.level.rules (rest_keys s) → s.bytes ≡ [] → AreMissingAtEnd s.level.rules (rest_keys s) wrongs
      → Finds s (map (at_end s.level) wrongs)
  ended_finds s wrongs are front empty is =
      subst (λ (ws : List Wrong). Finds s (map (at_end s.level) ws)) (sym is.parts)
      (by (missing_between s.level.rules (rest_keys s) is.from (length s.level.rules)) (firstly_between (met s.level.rules (rest_keys s)) s.level.rules is.from (length s.level.rules)))
    where
      by : (ws : List Wrong) → Firstly (met s.level.rules (rest_keys s)) s.level.rules is.from (length s.level.rules) ws → Finds s (map (at_end s.level) ws)
      by [] enough = walks.ended empty (none_missing_at_end s.level.rules are (rest_keys s) front is.from is.is_from enough) refl
      by (w ∷ ws) first =
          walks.missing first.number first.rule empty (missing_at_end_first s.level.rules are (rest_keys s) front is.from is.is_from w first)
          (ap (λ (x : Wrong). Some (at_end s.level x)) first.is_wrong)

  no_group : (s : Rest) (v : PlainAvp) → IsFine d u most s v → IsOpened d most s.level.depth v None → group_at d v ≡ None
  no_group s v fine (levels.IsOpened.leaf none) = none
  no_group s v fine (levels.IsOpened.deep bad) = by (group_at d v) refl
    where
      by : (o : Option PlainDefinition) → group_at d v ≡ o → group_at d v ≡ None
      by None is = is
      by (Some g) is = absurd (bad (opens d sound u most s v g fine is))

  front_after : (s : Rest) (v : PlainAvp) (rest : List ℕ) → IsFront s.level.rules (rest_keys s ++ key_of v ∷ []) → IsFront s.level.rules (rest_keys (following s v rest))
  front_after s v rest front = subst (IsFront s.level.rules) (sym (map-append key_of s.earlier (v ∷ []))) front

  is_group : (s : Rest) (v : PlainAvp) (g : PlainDefinition) → IsOpened d most s.level.depth v (Some g) → group_at d v ≡ Some g
  is_group s v g (levels.IsOpened.group h is may) = is

  leaf_finds : (s : Rest) (v : PlainAvp) (rest : List ℕ) (own : List Wrong) (after : List Found) → BeginsWith v s.bytes rest → IsOpened d most s.level.depth v None
      → (are : AreRules s.level.rules) (front : IsFront s.level.rules (rest_keys s)) → OwnSays d u most s v are front own
      → (IsFront s.level.rules (rest_keys (following s v rest)) → Finds (following s v rest) after) → Finds s (map (at s.at) own ++ after)
  leaf_finds s v rest [] after begins opened are front (fine, next) more = walks.leaf v rest begins fine (no_group s v fine opened) (more (front_after s v rest next))
  leaf_finds s v rest (w ∷ ws) after begins opened are front first more = walks.wrong v rest w.reason w.subject begins first refl

  group_finds : (s : Rest) (v : PlainAvp) (rest : List ℕ) (own : List Wrong) (g : PlainDefinition) (members after : List Found) → BeginsWith v s.bytes rest → IsOpened d most s.level.depth v (Some g)
      → (are : AreRules s.level.rules) (front : IsFront s.level.rules (rest_keys s)) → OwnSays d u most s v are front own → Finds (inside s v g) members
      → (IsFront s.level.rules (rest_keys (following s v rest)) → Finds (following s v rest) after) → Finds s (map (at s.at) own ++ (members ++ after))
  group_finds s v rest [] g [] after begins opened are front (fine, next) inner more = walks.group v rest g begins fine (is_group s v g opened) inner (more (front_after s v rest next))
  group_finds s v rest [] g (m ∷ ms) after begins opened are front (fine, next) inner more = walks.bad_group v rest g m begins fine (is_group s v g opened) inner refl
  group_finds s v rest (w ∷ ws) g members after begins opened are front first inner more = walks.wrong v rest w.reason w.subject begins first refl

  rules_inside : (s : Rest) (v : PlainAvp) (g : PlainDefinition) → IsOpened d most s.level.depth v (Some g) → AreRules g.rules
  rules_inside s v g opened =
      let e = entry_of_group d sound u most v g (known d (key_of v)) refl (is_group s v g opened) in group_rules d sound u most v e.0 g e.1 e.2

  pub finds : (s : Rest) (fs : List Found) → IsListing d u most s fs → AreRules s.level.rules → IsFront s.level.rules (rest_keys s) → Finds s fs
  finds s fs (levels.IsListing.ended wrongs empty is parts) are front = subst (Finds s) (sym parts) (ended_finds s wrongs are front empty is)
  finds s fs (levels.IsListing.broken some none parts) are front = subst (Finds s) (sym parts) (walks.broken some none refl)
  finds s fs (levels.IsListing.leaf v rest own after begins is_own opened more parts) are front =
      subst (Finds s) (sym parts)
      (leaf_finds s v rest own after begins opened are front (own_says d u most s v are front own is_own) (λ next. finds (following s v rest) after more are next))
  finds s fs (levels.IsListing.group v rest own g members after begins is_own opened inner more parts) are front =
      subst (Finds s) (sym parts)
      (group_finds s v rest own g members after begins opened are front (own_says d u most s v are front own is_own)
      (finds (inside s v g) members inner (rules_inside s v g opened) (no_keys g.rules)) (λ next. finds (following s v rest) after more are next))

  -- ---- the whole message

  module _ (bytes : List ℕ) where
    body_first : (good : HasGoodHeader d bytes) (fs : List Found) → HasLength bytes (length bytes) → Finds (whole good.command.rules bytes) fs → IsFirstOf d u most bytes fs
    body_first good [] sized walk = (good.c, walk_answers d sound u most bytes sized good None walk)
    body_first good (f ∷ fs) sized walk = walk_answers d sound u most bytes sized good (Some f) walk

    proxiable_or_body : (h : Header) (c : ℕ) (command : PlainDefinition) (p members : List Found) → HasLength bytes (length bytes) → HasHeader bytes h → GoodBits h
        → selected d h.code (class_of h.flags) h.app ≡ Some c → slice_get (definitions d) c ≡ Some command → HasProxiable command h p → IsListing d u most (whole command.rules bytes) members
        → IsFirstOf d u most bytes (p ++ members)
    proxiable_or_body h c command p members sized is bits select is_command (messages.HasProxiable.wrong bad) listing =
        inr (inr (sized, proxiable_first d sound u most bytes h c command is bits select is_command bad))
    proxiable_or_body h c command p members sized is bits select is_command (messages.HasProxiable.fine allows) listing =
        body_first (record { header = h; is_header = is; bits = bits; c = c; select = select; command = command; is_command = is_command; proxiable = allows }) members sized
        (finds (whole command.rules bytes) members listing (kept_rules d c command sound is_command) (no_keys command.rules))

    others_first : (h : Header) (fs : List Found) → HasLength bytes (length bytes) → HasHeader bytes h → GoodBits h → HasBody d u most bytes h fs → IsFirstOf d u most bytes fs
    others_first h fs sized is bits (messages.HasBody.no_command none select) = inr (inr (sized, command_first d sound u most bytes h is bits none))
    others_first h fs sized is bits (messages.HasBody.no_application some select) = inr (inr (sized, application_first d sound u most bytes h is bits some select))
    others_first h fs sized is bits (messages.HasBody.body c command p members select is_command is_p listing parts) =
        subst (IsFirstOf d u most bytes) (sym parts) (proxiable_or_body h c command p members sized is bits select is_command is_p listing)

    bits_or_others : (h : Header) (bits others : List Found) → HasLength bytes (length bytes) → HasHeader bytes h → HasBits h bits → HasBody d u most bytes h others
        → IsFirstOf d u most bytes (bits ++ others)
    bits_or_others h bits others sized is (messages.HasBits.wrong bad) rest = inr (inr (sized, bits_first d sound u most bytes h is bad))
    bits_or_others h bits others sized is (messages.HasBits.fine e t) rest = others_first h others sized is (e, t) rest

    pub first_of_all : (fs : List Found) → AreAll d u most bytes fs → IsFirstOf d u most bytes fs
    first_of_all fs (messages.AreAll.version long bad) = inl (long, bad, refl)
    first_of_all fs (messages.AreAll.message_length long version bad) = inr (inl (long, version, bad, refl))
    first_of_all fs (messages.AreAll.whole_message h bits others sized is is_bits rest parts) =
        subst (IsFirstOf d u most bytes) (sym parts) (bits_or_others h bits others sized is is_bits rest)
