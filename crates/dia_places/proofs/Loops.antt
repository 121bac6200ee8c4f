-- One more of what loops gather.
use Rattle.std.proofs.Common.{◌≡◌, ℕ, ◌+◌, ◌<◌, Bool, cond, List, [], ◌∷◌, ◌++◌, length, get_or, map, take, Option, Some, None, sym, ap, ◌∙◌, arith}
use Rattle.std.specs.Prelude.{slice_get, is_some}
use Rattle.std.specs.List.{filter_map, cons_option}
use Rattle.std.specs.Option.{option_map}
use Rattle.std.proofs.lemmas.List.{append-nil, length_push, map_push}
use Rattle.std.proofs.lemmas.List.Elements.{filter_map-append}
use Rattle.std.proofs.lemmas.Option.{slice_get-get_or}
use Rattle.dia_book.specs.declared.definition.DRule.{DRule}
use Rattle.dia_book.specs.Dictionary.{Dictionary, DictEntry, PlainDefinition, definitions, group_place}
use Rattle.dia_valid.proofs.Entries.{group_of_entry}
use Rattle.dia_valid.proofs.Members.{taken, there_is}
use Rattle.dia_breaking_ways.specs.declared.graph.Node.{Node}
use Rattle.dia_breaking_ways.specs.Walks.{PlainNode, plain_node}
use Rattle.dia_places.specs.Graph.{listed_by, node_by, node_with, one_step}
use Rattle.dia_places.specs.Paths.{group_by, rules_at}
use Rattle.dia_places.proofs.Graphs.{rules_here}

abbrev pub groups_in : List DictEntry → ℕ
groups_in es = length (filter_map (λ (x : DictEntry). x.group) es)

one_group : (xs : List PlainDefinition) (n : ℕ) (o : Option PlainDefinition) → length (xs ++ cons_option o []) ≡ length xs + cond (is_some (option_map (λ _. n) o)) 1 0
one_group xs n None = ap length (append-nil xs) ∙ (let e : length xs ≡ length xs + 0 = omega arith in e)
one_group xs n (Some g) = length_push xs g

-- the groups among one more entry
pub more_groups : (d : Dictionary) (i : ℕ) → i < length d.entries → groups_in (take (i + 1) d.entries) ≡ groups_in (take i d.entries) + cond (is_some (group_place d i)) 1 0
more_groups d i within =
    let (e, at) = there_is d.entries i within in
    let is = group_of_entry d i e at in
    ap groups_in (taken d.entries i e at) ∙ ap length (filter_map-append (λ (x : DictEntry). x.group) (take i d.entries) (e ∷ []))
    ∙ one_group (filter_map (λ (x : DictEntry). x.group) (take i d.entries)) (groups_in (take i d.entries)) e.group
    ∙ ap (λ (o : Option ℕ). groups_in (take i d.entries) + cond (is_some o) 1 0) (sym is)

-- a count of them, one step on
pub more_counted : (d : Dictionary) (i count next : ℕ) (b : Bool) (o : Option ℕ) → i < length d.entries → count ≡ groups_in (take i d.entries) → o ≡ group_place d i → is_some o ≡ b
    → next ≡ count + cond b 1 0
    → next ≡ groups_in (take (i + 1) d.entries)
more_counted d i count next b o within is place some step =
    step ∙ ap (λ (k : ℕ). k + cond b 1 0) is ∙ ap (λ (t : Bool). groups_in (take i d.entries) + cond t 1 0) (sym some ∙ ap is_some place) ∙ sym (more_groups d i within)

-- the groups that one more rule allows
pub more_listed : (d : Dictionary) (rules : List DRule) (i : ℕ) (x : DRule) → slice_get rules i ≡ Some x
    → listed_by d (take (i + 1) rules) ≡ listed_by d (take i rules) ++ cons_option (option_map one_step (group_by d x)) []
more_listed d rules i x at = ap (listed_by d) (taken rules i x at) ∙ filter_map-append (λ (rule : DRule). option_map one_step (group_by d rule)) (take i rules) (x ∷ [])

pub more_pushed : (d : Dictionary) (rules : List DRule) (i : ℕ) (x : DRule) (o : Option ℕ) (listed next : List (ℕ × ℕ)) → i < length rules → o ≡ group_by d (get_or rules i x)
    → listed ≡ listed_by d (take i rules) → next ≡ listed ++ cons_option (option_map one_step o) [] → next ≡ listed_by d (take (i + 1) rules)
more_pushed d rules i x o listed next within group is step =
    step ∙ ap (λ (xs : List (ℕ × ℕ)). xs ++ cons_option (option_map one_step o) []) is
    ∙ ap (λ (p : Option ℕ). listed_by d (take i rules) ++ cons_option (option_map one_step p) []) group
    ∙ sym (more_listed d rules i (get_or rules i x) (slice_get-get_or rules i x within))

-- one more node
pub more_nodes : (d : Dictionary) (n : ℕ) (nodes : List Node) (node : Node) → n < length (definitions d) → plain_node node ≡ node_with d (rules_at d n)
    → map plain_node nodes ≡ map (node_by d) (take n (definitions d)) → map plain_node (nodes ++ node ∷ []) ≡ map (node_by d) (take (n + 1) (definitions d))
more_nodes d n nodes node within is before =
    let (def, at) = there_is (definitions d) n within in
    map_push plain_node nodes node
    ∙ ap (λ (ns : List PlainNode). ns ++ plain_node node ∷ []) before
    ∙ ap (λ (x : PlainNode). map (node_by d) (take n (definitions d)) ++ x ∷ []) (is ∙ ap (node_with d) (rules_here d n def at))
    ∙ sym (map_push (node_by d) (take n (definitions d)) def) ∙ ap (map (node_by d)) (sym (taken (definitions d) n def at))
