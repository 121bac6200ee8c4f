-- The canonical text of each part is read as that part.
use Rattle.std.proofs.Common.{◌≡◌, ℕ, ◌<◌, Bool, true, false, not, cond, List, [], ◌∷◌, ◌++◌, map, Option}
use Rattle.std.proofs.Common.{Some, None, codes, string_bytes, String, inl, refl, sym, ap, subst, ◌∙◌, append_assoc, rules}
use Rattle.std.specs.List.{flat_map, list_all, AllByRecursion, filter_map}
use Rattle.std.specs.Option.{option_map}
use Rattle.std.specs.Global.{Global}
use Rattle.std.proofs.lemmas.List.{append-nil}
use Rattle.std.proofs.lemmas.List.Elements.{filter_map-append}
use Rattle.std.proofs.lemmas.Bool.{and_parts}
use Rattle.dia_ccf.specs.declared.source.Head.{Head}
use Rattle.dia_ccf.specs.declared.source.Head.TheVariants.{Group, Command, Error}
use Rattle.dia_terms.specs.declared.RuleKind.{RuleKind}
use Rattle.dia_terms.specs.declared.RuleKind.TheVariants.{Fixed, Required, Optional}
use Rattle.dia_ccf.specs.declared.source.Qual.{Qual}
use Rattle.dia_ccf.specs.declared.source.Decl.{Decl}
use Rattle.dia_ccf.specs.declared.source.Rule.{Rule}
use Rattle.dia_ccf.specs.declared.source.Def.{Def}
use Rattle.dia_ccf.specs.declared.source.Source.{Source}
use Rattle.dia_ccf.specs.Names.{is_name, is_rule_name, is_number_or_none, is_qualifier, is_fixed, fixed_first, is_group}
use Rattle.dia_ccf.specs.Plain.{PlainDef, plain_source, plain_decl, plain_rule, plain_def}
use Rattle.dia_ccf.specs.Tokens.{Less, Greater, Open_brace, Close_brace, Open_bracket, Close_bracket, Star, Assign, tokens}
use Rattle.dia_ccf.specs.Grammar.{◌then◌, one, either, name, each}
use Rattle.dia_ccf.specs.Grammar.{head, count, qualifier, slot, bracketed, rule, IsFixed, FixedFirst, definition}
use Rattle.dia_ccf.specs.Grammar.{Item, Declaration, Definition, item, declared, item_group, item_command, group_of_head, command_of_head, source_of, Derives}
use Rattle.dia_ccf.specs.CanonicalText.{line_feed, declaration_line}
use Rattle.dia_ccf.specs.CanonicalText.{head_text, count_text, qualifier_text, slot_text, bracketed_text, rule_line, definition_lines, canonical}
use Rattle.dia_ccf.proofs.TokensOfTexts.{lexed, tokens_after-lexed}
use Rattle.dia_ccf.proofs.TextsOfClasses.{Reads, Anything, NoRun, reads_then, reads_after_space, reads_before_space, reads_before_feed, reads_after_feed, reads_narrower}
use Rattle.dia_ccf.proofs.TextsOfClasses.{reads_wider, reads_same, reads_word, reads_nothing, reads_each, reads_each-append}
use Rattle.dia_ccf.proofs.CanonicalHeads.{reads_name, reads_number_32, reads_declaration, reads_head}

-- ---- rules

reads_count : (n : Option ℕ) → is_number_or_none n ≡ true → Reads NoRun (count n) (count_text n)
reads_count None small = reads_nothing
reads_count (Some n) small = reads_number_32 n small

reads_star : Reads Anything (one Star) (codes "*")
reads_star = record { tokens = Star ∷ []; derived = refl; read = λ rest may. refl }

qualifier-regroup : (a s b z : List ℕ) → a ++ s ++ b ++ z ≡ a ++ (s ++ (b ++ z))
qualifier-regroup a s b z = simp append_assoc

reads_qualifier : (q : Option Qual) → is_qualifier q ≡ true → Reads Anything (qualifier q) (qualifier_text q)
reads_qualifier None small = reads_nothing
reads_qualifier (Some q) small =
    let parts = and_parts (is_number_or_none q.min) (is_number_or_none q.max) small in
    reads_same (qualifier_text (Some q)) (qualifier-regroup (count_text q.min) (codes "*") (count_text q.max) (codes " "))
    (reads_then (reads_count q.min parts.0)
    (reads_then reads_star (reads_before_space (reads_count q.max parts.1)) (λ rest may. tt))
    (λ rest may. refl))

reads_less : Reads Anything (one Less) (codes "< ")
reads_less = record { tokens = Less ∷ []; derived = refl; read = λ rest may. refl }

reads_greater : Reads Anything (one Greater) (codes " >")
reads_greater = record { tokens = Greater ∷ []; derived = refl; read = λ rest may. refl }

reads_open_brace : Reads Anything (one Open_brace) (codes "{ ")
reads_open_brace = record { tokens = Open_brace ∷ []; derived = refl; read = λ rest may. refl }

reads_close_brace : Reads Anything (one Close_brace) (codes " }")
reads_close_brace = record { tokens = Close_brace ∷ []; derived = refl; read = λ rest may. refl }

reads_rule_open_bracket : Reads Anything (one Open_bracket) (codes "[ ")
reads_rule_open_bracket = record { tokens = Open_bracket ∷ []; derived = refl; read = λ rest may. refl }

reads_rule_close_bracket : Reads Anything (one Close_bracket) (codes " ]")
reads_rule_close_bracket = record { tokens = Close_bracket ∷ []; derived = refl; read = λ rest may. refl }

reads_slot : (kind : RuleKind) (n : Option (String Global)) → is_rule_name kind n ≡ true → Reads NoRun (slot (option_map (λ s. string_bytes s) n)) (slot_text (option_map (λ s. string_bytes s) n))
reads_slot kind None named = reads_word (codes "AVP") refl
reads_slot kind (Some n) named = reads_name (string_bytes n) named

reads_bracketed : (kind : RuleKind) (n : Option (String Global)) → is_rule_name kind n ≡ true
    → Reads Anything (bracketed kind (option_map (λ s. string_bytes s) n)) (bracketed_text kind (slot_text (option_map (λ s. string_bytes s) n)))
reads_bracketed Fixed None named = cc
reads_bracketed Fixed (Some n) named =
    reads_same (bracketed_text Fixed (string_bytes n)) (append_assoc (codes "< ") (string_bytes n) (codes " >"))
    (reads_then reads_less (reads_then (reads_name (string_bytes n) named) reads_greater (λ rest may. refl)) (λ rest may. tt))
reads_bracketed Required n named =
    let text = slot_text (option_map (λ s. string_bytes s) n) in
    reads_same (bracketed_text Required text) (append_assoc (codes "{ ") text (codes " }"))
    (reads_then reads_open_brace (reads_then (reads_slot Required n named) reads_close_brace (λ rest may. refl)) (λ rest may. tt))
reads_bracketed Optional n named =
    let text = slot_text (option_map (λ s. string_bytes s) n) in
    reads_same (bracketed_text Optional text) (append_assoc (codes "[ ") text (codes " ]"))
    (reads_then reads_rule_open_bracket (reads_then (reads_slot Optional n named) reads_rule_close_bracket (λ rest may. refl)) (λ rest may. tt))

rule-regroup : (s q b l : List ℕ) → s ++ q ++ b ++ l ≡ s ++ ((q ++ b) ++ l)
rule-regroup s q b l = simp append_assoc

reads_rule : (r : Rule) → Reads Anything (rule (plain_rule r)) (rule_line (plain_rule r))
reads_rule r =
    let p = plain_rule r in
    reads_same (rule_line p) (rule-regroup (codes "  ") (qualifier_text p.qual) (bracketed_text p.kind (slot_text p.name)) line_feed)
    (reads_after_space (reads_after_space (reads_before_feed (reads_narrower
    (reads_then (reads_qualifier r.qual r.counted) (reads_bracketed r.kind r.name r.named) (λ rest may. tt))))))

-- ---- definitions

fixed_kind : (k : RuleKind) → is_fixed k ≡ true → k ≡ Fixed
fixed_kind Fixed h = refl
fixed_kind Required h = cc
fixed_kind Optional h = cc

loose_kind : (k : RuleKind) → not (is_fixed k) ≡ true → ¬ (k ≡ Fixed)
loose_kind Fixed h e = cc
loose_kind Required h e = cc
loose_kind Optional h e = cc

all_loose : (rules : List Rule) → list_all (λ k. not (is_fixed k)) (map (λ r. r.kind) rules) ≡ true → AllByRecursion (λ r. ¬ IsFixed r) (map plain_rule rules)
all_loose [] h = tt
all_loose (r ∷ rules) h =
    let parts = and_parts (not (is_fixed r.kind)) (list_all (λ k. not (is_fixed k)) (map (λ r. r.kind) rules)) h in
    (loose_kind r.kind parts.0, all_loose rules parts.1)

pub fixed_first_splits : (rules : List Rule) → fixed_first (map (λ r. r.kind) rules) ≡ true → FixedFirst (map plain_rule rules)
fixed_first_splits [] h = ([], [], refl, tt, tt)
fixed_first_splits (r ∷ rules) h =
    let kinds = map (λ r. r.kind) rules in
    elim (is_fixed r.kind) as (λ t. is_fixed r.kind ≡ t → cond t (fixed_first kinds) (list_all (λ k. not (is_fixed k)) kinds) ≡ true → FixedFirst (map plain_rule (r ∷ rules))) [
      | true ↦ λ here rest.
          let split = fixed_first_splits rules rest in
          (plain_rule r ∷ split.0, split.1, ap (λ rs. plain_rule r ∷ rs) split.2, (fixed_kind r.kind here, split.3), split.4)
      | false ↦ λ here rest. ([], plain_rule r ∷ map plain_rule rules, refl, tt, (loose_kind r.kind (ap not here), all_loose rules rest))
    ] refl h

reads_name_open : Reads Anything (one Less) (codes "<")
reads_name_open = record { tokens = Less ∷ []; derived = refl; read = λ rest may. refl }

reads_name_close : Reads Anything (one Greater) (codes ">")
reads_name_close = record { tokens = Greater ∷ []; derived = refl; read = λ rest may. refl }

reads_assign : Reads Anything (one Assign) (codes " ::= ")
reads_assign = record { tokens = Assign ∷ []; derived = refl; read = λ rest may. refl }

definition-regroup : (a n e s o h g l r : List ℕ) → a ++ n ++ (e ++ (s ++ o)) ++ h ++ g ++ l ++ r ≡ (a ++ (n ++ e)) ++ (s ++ (o ++ (h ++ (g ++ (l ++ r)))))
definition-regroup a n e s o h g l r = simp append_assoc

reads_defined : (n : List ℕ) → is_name n ≡ true → Reads Anything (either (one Less then name n then one Greater) (name n)) (codes "<" ++ (n ++ codes ">"))
reads_defined n named =
    reads_wider (either (one Less then name n then one Greater) (name n)) (λ ts d. inl d)
    (reads_then reads_name_open (reads_then (reads_name n named) reads_name_close (λ rest may. refl)) (λ rest may. tt))

pub reads_definition : (d : Def) → Reads Anything (definition (plain_def d)) (definition_lines (plain_def d))
reads_definition d =
    let p = plain_def d in
    let rules = flat_map rule_line p.rules in
    reads_same (definition_lines p) (definition-regroup (codes "<") p.name (codes ">") (codes " ::= ") (codes "< ") (head_text p.head) (codes " >") line_feed rules)
    (reads_wider (definition p) (λ ts d'. (fixed_first_splits d.rules.items d.ordered, d'))
    (reads_then (reads_defined p.name d.named)
    (reads_then reads_assign
    (reads_then reads_less
    (reads_then (reads_head p.head d.headed)
    (reads_then reads_greater
    (reads_after_feed (reads_each rule rule_line plain_rule plain_rule reads_rule d.rules.items))
    (λ rest may. tt))
    (λ rest may. refl))
    (λ rest may. tt))
    (λ rest may. tt))
    (λ rest may. tt)))

-- ---- sources

list_all_true : {X : Type 0} (xs : List X) → list_all (λ x. true) xs ≡ true
list_all_true [] = refl
list_all_true (x ∷ xs) = list_all_true xs

filter_map-map_some : {X Y Z : Type 0} (h : Y → Option Z) (f : X → Y) (g : X → Z) (p : X → Bool)
    → ((x : X) → p x ≡ true → h (f x) ≡ Some (g x)) → (xs : List X) → list_all p xs ≡ true → filter_map h (map f xs) ≡ map g xs
filter_map-map_some h f g p some [] all = refl
filter_map-map_some h f g p some (x ∷ xs) all =
    let parts = and_parts (p x) (list_all p xs) all in
    rw (some x parts.0, filter_map-map_some h f g p some xs parts.1) refl

filter_map-map_none : {X Y Z : Type 0} (h : Y → Option Z) (f : X → Y) (p : X → Bool) → ((x : X) → p x ≡ true → h (f x) ≡ None) → (xs : List X) → list_all p xs ≡ true → filter_map h (map f xs) ≡ []
filter_map-map_none h f p none [] all = refl
filter_map-map_none h f p none (x ∷ xs) all =
    let parts = and_parts (p x) (list_all p xs) all in
    rw (none x parts.0, filter_map-map_none h f p none xs parts.1) refl

group_of_head-group : (h : Head) (d : PlainDef) → is_group h ≡ true → group_of_head h d ≡ Some d
group_of_head-group (Group code n) d is = refl
group_of_head-group (Command code request pxy app) d is = cc
group_of_head-group (Error pxy) d is = cc

group_of_head-command : (h : Head) (d : PlainDef) → not (is_group h) ≡ true → group_of_head h d ≡ None
group_of_head-command (Group code n) d is = cc
group_of_head-command (Command code request pxy app) d is = refl
group_of_head-command (Error pxy) d is = refl

command_of_head-group : (h : Head) (d : PlainDef) → is_group h ≡ true → command_of_head h d ≡ None
command_of_head-group (Group code n) d is = refl
command_of_head-group (Command code request pxy app) d is = cc
command_of_head-group (Error pxy) d is = cc

command_of_head-command : (h : Head) (d : PlainDef) → not (is_group h) ≡ true → command_of_head h d ≡ Some d
command_of_head-command (Group code n) d is = cc
command_of_head-command (Command code request pxy app) d is = refl
command_of_head-command (Error pxy) d is = refl

abbrev declared_item : Decl → Item
declared_item d = Declaration (plain_decl d)

abbrev defined_item : Def → Item
defined_item d = Definition (plain_def d)

abbrev items_of : Source → List Item
items_of s = map declared_item s.avps.items ++ map defined_item s.groups.items ++ map defined_item s.commands.items

filter_map-three : {X Y : Type 0} (h : X → Option Y) (a b c : List X) (x y z : List Y) → filter_map h a ≡ x → filter_map h b ≡ y → filter_map h c ≡ z → filter_map h (a ++ b ++ c) ≡ x ++ y ++ z
filter_map-three h a b c x y z p q r = filter_map-append h (a ++ b) c ∙ rw (filter_map-append h a b, p, q, r) refl

source_of-items_of : (s : Source) → plain_source s ≡ source_of (items_of s)
source_of-items_of s =
    let decls = s.avps.items in
    let groups = s.groups.items in
    let commands = s.commands.items in
    let only_avps = filter_map-three declared (map declared_item decls) (map defined_item groups) (map defined_item commands) (map plain_decl decls) [] []
    (filter_map-map_some declared declared_item plain_decl (λ d. true) (λ d h. refl) decls (list_all_true decls))
    (filter_map-map_none declared defined_item (λ d. true) (λ d h. refl) groups (list_all_true groups))
    (filter_map-map_none declared defined_item (λ d. true) (λ d h. refl) commands (list_all_true commands))
    ∙ append-nil (map plain_decl decls ++ []) ∙ append-nil (map plain_decl decls) in
    let only_groups = filter_map-three item_group (map declared_item decls) (map defined_item groups) (map defined_item commands) [] (map plain_def groups) []
    (filter_map-map_none item_group declared_item (λ d. true) (λ d h. refl) decls (list_all_true decls))
    (filter_map-map_some item_group defined_item plain_def (λ d. is_group d.head) (λ d h. group_of_head-group d.head (plain_def d) h) groups s.grouped)
    (filter_map-map_none item_group defined_item (λ d. not (is_group d.head)) (λ d h. group_of_head-command d.head (plain_def d) h) commands s.commanded)
    ∙ append-nil (map plain_def groups) in
    let only_commands = filter_map-three item_command (map declared_item decls) (map defined_item groups) (map defined_item commands) [] [] (map plain_def commands)
    (filter_map-map_none item_command declared_item (λ d. true) (λ d h. refl) decls (list_all_true decls))
    (filter_map-map_none item_command defined_item (λ d. is_group d.head) (λ d h. command_of_head-group d.head (plain_def d) h) groups s.grouped)
    (filter_map-map_some item_command defined_item plain_def (λ d. not (is_group d.head)) (λ d h. command_of_head-command d.head (plain_def d) h) commands s.commanded) in
    rw (only_avps, only_groups, only_commands) refl

reads_canonical : (s : Source) → Reads Anything (each item (items_of s)) (canonical (plain_source s))
reads_canonical s =
    let avps = reads_each item declaration_line declared_item plain_decl reads_declaration s.avps.items in
    let groups = reads_each item definition_lines defined_item plain_def reads_definition s.groups.items in
    let commands = reads_each item definition_lines defined_item plain_def reads_definition s.commands.items in
    reads_each-append item (map declared_item s.avps.items ++ map defined_item s.groups.items) (map defined_item s.commands.items)
    (reads_each-append item (map declared_item s.avps.items) (map defined_item s.groups.items) avps groups) commands

-- the canonical text is read as the source again
pub derives-canonical : (s : Source) → Derives (tokens (canonical (plain_source s))) (plain_source s)
derives-canonical s =
    let text = canonical (plain_source s) in
    let p = reads_canonical s in
    let same : p.tokens ≡ tokens text = sym (tokens_after-lexed 0 0 text ∙ ap (lexed 0) (sym (append-nil text)) ∙ p.read [] tt ∙ append-nil p.tokens) in
    (items_of s, subst (λ ts. each item (items_of s) ts) same p.derived, source_of-items_of s)
