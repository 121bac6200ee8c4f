-- The levels of a dictionary's graph, and where they lead.
use Rattle.std.proofs.Common.{◌≡◌, ℕ, zero, suc, ◌+◌, ◌<◌, ◌≤◌, List, [], ◌∷◌, length, Option, Some, None, false, refl, sym, ap, subst, ◌∙◌, arith, inl, inr}
use Rattle.std.specs.Prelude.{◌⊎◌, slice_get, Contains, option_and_then}
use Rattle.std.specs.Option.{option_map, option_map_or}
use Rattle.std.proofs.lemmas.List.Elements.{Contains-append_left, Contains-push, Contains-push_cases}
use Rattle.std.proofs.lemmas.Option.{none-some, same_Some, slice_get-map, some_pair_parts}
use Rattle.dia_book.specs.declared.definition.DRule.{DRule}
use Rattle.dia_book.specs.Dictionary.{Dictionary, PlainDefinition, definitions, groups}
use Rattle.dia_book.specs.Limits.{max_parts}
use Rattle.dia_book.proofs.Members.{at_Contains, at_filter_map}
use Rattle.dia_valid.proofs.Members.{contains_in, in_at, in_contains, in_filter_map}
use Rattle.dia_breaking_ways.specs.Walks.{HasExits, Leads, PlainExits, PlainLevel, PlainNode, is_by_wildcard, level_of}
use Rattle.dia_breaking_ways.specs.Walks.Leads.{By_rule, By_wildcard}
use Rattle.dia_places.specs.Paths.{group_by, rules_at}
use Rattle.dia_places.specs.Graph.{commands_from, exits_to, graph_in, level_by, listed_by, node_by, one_step}

-- ---- levels

level_in : (d : Dictionary) (level : PlainLevel) (o : Option PlainDefinition) → option_and_then (λ (node : PlainNode). node.level) (option_map (node_by d) o) ≡ Some level
    → (def : PlainDefinition) × (o ≡ Some def) × (level ≡ level_by d def.rules)
level_in d level None e = absurd (none-some level e)
level_in d level (Some def) e = (def, refl, sym (same_Some (level_by d def.rules) level e))

pub level_there : (d : Dictionary) (n : ℕ) (level : PlainLevel) → level_of (graph_in d) n ≡ Some level
    → (def : PlainDefinition) × (slice_get (definitions d) n ≡ Some def) × (level ≡ level_by d def.rules)
level_there d n level e =
    level_in d level (slice_get (definitions d) n) (ap (option_and_then (λ (node : PlainNode). node.level)) (sym (slice_get-map (node_by d) (definitions d) n)) ∙ e)

pub level_here : (d : Dictionary) (n : ℕ) (def : PlainDefinition) → slice_get (definitions d) n ≡ Some def → level_of (graph_in d) n ≡ Some (level_by d def.rules)
level_here d n def at = ap (option_and_then (λ (node : PlainNode). node.level)) (slice_get-map (node_by d) (definitions d) n ∙ ap (option_map (node_by d)) at)

pub rules_here : (d : Dictionary) (n : ℕ) (def : PlainDefinition) → slice_get (definitions d) n ≡ Some def → rules_at d n ≡ def.rules
rules_here d n def at = ap (λ (o : Option PlainDefinition). option_map_or (λ (x : PlainDefinition). x.rules) o []) at

-- ---- where rules lead

step_from : (o : Option ℕ) (p inner : ℕ) → option_map one_step o ≡ Some (p, inner) → (o ≡ Some p) × (inner ≡ 1)
step_from None p inner e = absurd (let f : None ≡ Some (p, inner) = e in cc)
step_from (Some n) p inner e = let parts = some_pair_parts n p 1 inner e in (ap (λ (x : ℕ). Some x) parts.0, sym parts.1)

pub listed_there : (d : Dictionary) (rules : List DRule) (p inner : ℕ) → Contains (listed_by d rules) (p, inner) → (rule : DRule) × Contains rules rule × (group_by d rule ≡ Some p) × (inner ≡ 1)
listed_there d rules p inner c =
    let found = at_Contains (listed_by d rules) (p, inner) c in
    let at = at_filter_map (λ (rule : DRule). option_map one_step (group_by d rule)) rules found.place (p, inner) found.at in
    let parts = step_from (group_by d at.1) p inner at.3 in
    (at.1, contains_in rules at.1 (in_at rules at.0 at.1 at.2), parts.0, parts.1)

pub listed_here : (d : Dictionary) (rules : List DRule) (rule : DRule) (p : ℕ) → Contains rules rule → group_by d rule ≡ Some p → Contains (listed_by d rules) (p, 1)
listed_here d rules rule p c e =
    contains_in (listed_by d rules) (p, 1) (in_filter_map (λ (r : DRule). option_map one_step (group_by d r)) rules rule (p, 1) (in_contains rules rule c) (ap (option_map one_step) e))

-- ---- the commands

pub command_there : (first n p inner : ℕ) → Contains (commands_from first n) (p, inner) → (i : ℕ) × (i < n) × (p ≡ first + i) × (inner ≡ 1)
command_there first zero p inner c = absurd (omega (arith, c.1))
command_there first (suc n) p inner c = by (command_there first n p inner) (Contains-push_cases (commands_from first n) (one_step (first + n)) (p, inner) c)
  where
    by : (Contains (commands_from first n) (p, inner) → (i : ℕ) × (i < n) × (p ≡ first + i) × (inner ≡ 1)) → Contains (commands_from first n) (p, inner) ⊎ (one_step (first + n) ≡ (p, inner))
        → (i : ℕ) × (i < suc n) × (p ≡ first + i) × (inner ≡ 1)
    by earlier (inl before) = let r = earlier before in (r.0, (let lt : r.0 < n = r.1 in omega arith), r.2, r.3)
    by earlier (inr last) = (n, omega arith, sym (ap (λ (x : ℕ × ℕ). x.0) last), sym (ap (λ (x : ℕ × ℕ). x.1) last))

pub command_here : (first n i : ℕ) → i < n → Contains (commands_from first n) (first + i, 1)
command_here first zero i lt = absurd (omega arith)
command_here first (suc n) i lt = by (command_here first n i) cases_le
  where
    cases_le : (i < n) ⊎ (i ≡ n)
    cases_le = grind arith

    by : (i < n → Contains (commands_from first n) (first + i, 1)) → (i < n) ⊎ (i ≡ n) → Contains (commands_from first (suc n)) (first + i, 1)
    by earlier (inl before) = Contains-append_left (commands_from first n) (one_step (first + n) ∷ []) (first + i, 1) (earlier before)
    by earlier (inr last) = subst (λ (k : ℕ). Contains (commands_from first (suc n)) (first + k, 1)) (sym last) (Contains-push (commands_from first n) (first + n, 1))

-- ---- exits

-- within the room only what is listed is led to
pub leads_listed : (d : Dictionary) (listed : List (ℕ × ℕ)) (p inner way : ℕ) → Leads (graph_in d).nodes (exits_to listed) p inner → way + inner ≤ max_parts → Contains listed (p, inner)
leads_listed d listed p inner way (By_rule lists) room = lists
leads_listed d listed p inner way (By_wildcard node at unlisted is) room = absurd (let e : inner ≡ max_parts + 1 + node.other = is in omega arith)

-- no wildcard leads anywhere
pub leads_plain : (d : Dictionary) (exits : PlainExits) (listed : List (ℕ × ℕ)) (p inner way : ℕ) → exits ≡ exits_to listed → (leads : Leads (graph_in d).nodes exits p inner) → way + inner ≤ max_parts
    → is_by_wildcard leads ≡ false
leads_plain d exits listed p inner way same (By_rule lists) room = refl
leads_plain d exits listed p inner way same (By_wildcard node at unlisted is) room =
    absurd (let beside : exits.beside ≡ max_parts + 1 = ap (λ (x : PlainExits). x.beside) same in let e : inner ≡ exits.beside + node.other = is in omega (arith, room, beside, e))

one_long : (d : Dictionary) (listed : List (ℕ × ℕ)) (p inner : ℕ) → ((q m : ℕ) → Contains listed (q, m) → m ≡ 1) → Leads (graph_in d).nodes (exits_to listed) p inner → 0 < inner
one_long d listed p inner ones (By_rule lists) = omega (arith, ones p inner lists)
one_long d listed p inner ones (By_wildcard node at unlisted is) = let e : inner ≡ max_parts + 1 + node.other = is in omega arith

pub exits_are : (d : Dictionary) (exits : PlainExits) → HasExits (graph_in d) exits → (listed : List (ℕ × ℕ)) × (exits ≡ exits_to listed) × ((q m : ℕ) → Contains listed (q, m) → m ≡ 1)
exits_are d exits (inl start) = (commands_from (length (groups d)) (length d.commands), start, λ q m c. (command_there (length (groups d)) (length d.commands) q m c).3)
exits_are d exits (inr (place, level, at, is)) =
    let there = level_there d place level at in
    (listed_by d there.0.rules, is ∙ ap (λ (l : PlainLevel). l.exits) there.2, λ q m c. (listed_there d there.0.rules q m c).3)

-- no level is longer than what leads to it
pub levels_shorter : (d : Dictionary) (exits : PlainExits) (place inner : ℕ) (level : PlainLevel) → HasExits (graph_in d) exits → Leads (graph_in d).nodes exits place inner
    → level_of (graph_in d) place ≡ Some level → level.least < inner
levels_shorter d exits place inner level has leads at =
    let there = level_there d place level at in
    let are = exits_are d exits has in
    let least : level.least ≡ 0 = ap (λ (l : PlainLevel). l.least) there.2 in
    let long : 0 < inner = one_long d are.0 place inner are.2 (subst (λ (e : PlainExits). Leads (graph_in d).nodes e place inner) are.1 leads) in
    omega arith
