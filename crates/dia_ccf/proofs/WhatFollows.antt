-- What may follow a place of the machine, so that the text says a source in the end.
use Rattle.std.proofs.Common.{◌≡◌, ℕ, ◌≤◌, Bool, true, false, cond, List, [], ◌∷◌, ◌++◌, map, Some, None, refl, sym, ap, subst, ◌∙◌, append_assoc}
use Rattle.std.specs.Prelude.{not}
use Rattle.std.specs.List.{cons_option, list_all, AllByRecursion}
use Rattle.std.proofs.lemmas.List.{append-nil}
use Rattle.dia_terms.specs.declared.FormatName.{FormatName}
use Rattle.dia_terms.specs.declared.FormatName.TheVariants as format
use Rattle.dia_ccf.specs.declared.source.Head.{Head}
use Rattle.dia_ccf.specs.declared.source.Head.TheVariants.{Group, Command, Error}
use Rattle.dia_terms.specs.declared.RuleKind.{RuleKind}
use Rattle.dia_terms.specs.declared.RuleKind.TheVariants.{Fixed, Required, Optional}
use Rattle.dia_ccf.specs.Names.{is_name, is_fixed, fixed_first}
use Rattle.dia_ccf.specs.Plain.{PlainDecl, PlainRule, PlainDef, PlainSource}
use Rattle.dia_ccf.specs.Tokens.{Token, Open_parenthesis, Close_parenthesis, Declares, Number, Name}
use Rattle.dia_ccf.specs.Grammar.{Tokens, ◌then◌, each, rule_word, vendor, range, values, rule, FixedFirst, IsFixed}
use Rattle.dia_terms.specs.Formats.{format_word}
use Rattle.dia_ccf.specs.Grammar.{Item, Declaration, Definition, item, group_of_head, command_of_head, source_of}
use Rattle.dia_ccf.specs.Limits.{max_number}
use Rattle.dia_ccf.specs.Machine.{add_decl, add_def, add_by_head, with_values, with_rule, all_fixed}
use Rattle.dia_ccf.specs.ReaderFunctions.{nothing_read}
use Rattle.dia_ccf.proofs.TokenTests.{both}

-- ---- classes

pub each-append : {X : Type 0} (class : X → Tokens) (xs ys : List X) (ts us : List Token) → each class xs ts → each class ys us → each class (xs ++ ys) (ts ++ us)
each-append class [] ys ts us h k = rw h k
each-append class (x ∷ xs) ys ts us (front, rest, parts, first, others) k =
    (front, rest ++ us, ap (λ (f : List Token). f ++ us) parts ∙ append_assoc front rest us, first, each-append class xs ys rest us others k)

pub each-one : {X : Type 0} (class : X → Tokens) (x : X) (ts : List Token) → class x ts → each class (x ∷ []) ts
each-one class x ts h = (ts, [], sym (append-nil ts), h, refl)

-- ---- items

abbrev pub add_item : PlainSource → Item → PlainSource
add_item done (Declaration d) = add_decl done d
add_item done (Definition d) = add_def done d

abbrev pub after : PlainSource → List Item → PlainSource
after done [] = done
after done (i ∷ is) = after (add_item done i) is

-- whole items to the end of the text
abbrev pub Ends : PlainSource → PlainSource → Tokens
Ends done s ts = (items : List Item) × each item items ts × (s ≡ after done items)

abbrev joined : PlainSource → PlainSource → PlainSource
joined a b = record { avps = a.avps ++ b.avps; groups = a.groups ++ b.groups; commands = a.commands ++ b.commands }

joined_by_head : (done : PlainSource) (d : PlainDef) (h : Head) (rest : PlainSource)
    → joined (add_by_head done d h) rest ≡ joined done (record { avps = rest.avps; groups = cons_option (group_of_head h d) rest.groups; commands = cons_option (command_of_head h d) rest.commands })
joined_by_head done d (Group code n) rest = ap (λ (xs : List PlainDef). record {
  avps = done.avps ++ rest.avps;
  groups = xs;
  commands = done.commands ++ rest.commands;
}) (append_assoc done.groups (d ∷ []) rest.groups)
joined_by_head done d (Command code request pxy app) rest = ap (λ (xs : List PlainDef). record {
  avps = done.avps ++ rest.avps;
  groups = done.groups ++ rest.groups;
  commands = xs;
}) (append_assoc done.commands (d ∷ []) rest.commands)
joined_by_head done d (Error pxy) rest = ap (λ (xs : List PlainDef). record { avps = done.avps ++ rest.avps; groups = done.groups ++ rest.groups; commands = xs })
    (append_assoc done.commands (d ∷ []) rest.commands)

after-joined : (done : PlainSource) (items : List Item) → after done items ≡ joined done (source_of items)
after-joined done [] = simp append-nil
after-joined done (Declaration d ∷ is) = after-joined (add_decl done d) is
    ∙ ap (λ (xs : List PlainDecl). record { avps = xs; groups = done.groups ++ (source_of is).groups; commands = done.commands ++ (source_of is).commands })
    (append_assoc done.avps (d ∷ []) (source_of is).avps)
after-joined done (Definition d ∷ is) = after-joined (add_def done d) is ∙ joined_by_head done d d.head (source_of is)

pub after-source : (items : List Item) → after nothing_read items ≡ source_of items
after-source items = after-joined nothing_read items

pub ends_none : (done : PlainSource) → Ends done done []
ends_none done = ([], refl, refl)

-- one item and then whole items
pub ends_more : (done s : PlainSource) (i : Item) (front rest : List Token) → item i front → Ends (add_item done i) s rest → Ends done s (front ++ rest)
ends_more done s i front rest h (items, each_of, is) = (i ∷ items, (front, rest, refl, h, each_of), is)

-- ---- declarations

abbrev pub decl_front : PlainDecl → List Token → List Token → List Token
decl_front d vs ts = Declares ∷ Name d.name ∷ Number d.code ∷ (vs ++ Name (format_word d.format) ∷ Name (rule_word d.rule) ∷ ts)

pub decl_made : (done s : PlainSource) (d : PlainDecl) (vs list ts : List Token) → is_name d.name ≡ true → d.code ≤ max_number → vendor d.vendor vs → values d.format d.values list
    → Ends (add_decl done d) s ts → Ends done s (decl_front d vs (list ++ ts))
decl_made done s d vs list ts named small of_vendor of_values h =
    let whole = ends_more done s (Declaration d) (decl_front d vs list) ts (
      Declares ∷ [],
      Name d.name ∷ Number d.code ∷ (vs ++ Name (format_word d.format) ∷ Name (rule_word d.rule) ∷ list),
      refl,
      refl,
      (
        Name d.name ∷ [],
        Number d.code ∷ (vs ++ Name (format_word d.format) ∷ Name (rule_word d.rule) ∷ list),
        refl,
        (named, refl),
        (
          Number d.code ∷ [],
          vs ++ Name (format_word d.format) ∷ Name (rule_word d.rule) ∷ list,
          refl,
          (small, refl),
          (
            vs,
            Name (format_word d.format) ∷ Name (rule_word d.rule) ∷ list,
            refl,
            of_vendor,
            (
              Name (format_word d.format) ∷ [],
              Name (rule_word d.rule) ∷ list,
              refl,
              refl,
              (Name (rule_word d.rule) ∷ [], list, refl, refl, of_values),
            ),
          ),
        ),
      ),
    )
    h in
    subst (Ends done s) (ap (λ (f : List Token). Declares ∷ Name d.name ∷ Number d.code ∷ f) (append_assoc vs (Name (format_word d.format) ∷ Name (rule_word d.rule) ∷ list) ts)) whole

pub record Sound_decl (d : PlainDecl) : Type 0 where
  pub named : is_name d.name ≡ true
  pub small : d.code ≤ max_number
  pub unlisted : d.values ≡ None

-- in a list of values
abbrev pub Values_follow : PlainSource → PlainSource → PlainDecl → List (ℕ × ℕ) → Tokens
Values_follow done s d ranges ts = Sound_decl d → d.format ≡ format.Enumerated → (vs ws : List Token) → vendor d.vendor vs
    → each range ranges ws → Ends done s (decl_front d vs (Open_parenthesis ∷ (ws ++ ts)))

pub range_more : (done s : PlainSource) (d : PlainDecl) (ranges : List (ℕ × ℕ)) (r : ℕ × ℕ) (front ts : List Token)
    → range r front → Values_follow done s d (ranges ++ r ∷ []) ts → Values_follow done s d ranges (front ++ ts)
range_more done s d ranges r front ts h follows sound listed vs ws of_vendor of_ranges =
    subst (λ (f : List Token). Ends done s (decl_front d vs (Open_parenthesis ∷ f))) (append_assoc ws front ts)
    (follows sound listed vs (ws ++ front) of_vendor (each-append range ranges (r ∷ []) ws front of_ranges (each-one range r front h)))

values_some : (d : PlainDecl) (ranges : List (ℕ × ℕ)) (r : ℕ × ℕ) (rs : List (ℕ × ℕ)) (ws : List Token) → d.format ≡ format.Enumerated
    → ranges ≡ r ∷ rs → each range ranges ws → values d.format (Some ranges) (Open_parenthesis ∷ (ws ++ Close_parenthesis ∷ []))
values_some d ranges r rs ws listed is h =
    subst (λ (f : FormatName). values f (Some ranges) (Open_parenthesis ∷ (ws ++ Close_parenthesis ∷ []))) (sym listed)
    (subst (λ (k : List (ℕ × ℕ)). values format.Enumerated (Some k) (Open_parenthesis ∷ (ws ++ Close_parenthesis ∷ []))) (sym is)
    (Open_parenthesis ∷ [], ws ++ Close_parenthesis ∷ [], refl, refl, (ws, Close_parenthesis ∷ [], refl, subst (λ (k : List (ℕ × ℕ)). each range k ws) is h, refl)))

pub values_closed : (done s : PlainSource) (d : PlainDecl) (ranges : List (ℕ × ℕ)) (r : ℕ × ℕ) (rs : List (ℕ × ℕ)) (ts : List Token)
    → ranges ≡ r ∷ rs → Ends (add_decl done (with_values d ranges)) s ts → Values_follow done s d ranges (Close_parenthesis ∷ ts)
values_closed done s d ranges r rs ts is h sound listed vs ws of_vendor of_ranges =
    subst (λ (f : List Token). Ends done s (decl_front d vs (Open_parenthesis ∷ f))) (append_assoc ws (Close_parenthesis ∷ []) ts)
    (decl_made done s (with_values d ranges) vs (Open_parenthesis ∷ (ws ++ Close_parenthesis ∷ [])) ts sound.named sound.small of_vendor (values_some d ranges r rs ws listed is of_ranges) h)

-- ---- rules

abbrev pub in_order : List PlainRule → Bool
in_order rules = fixed_first (map (λ r. r.kind) rules)

abbrev pub with_rules : PlainDef → List PlainRule → PlainDef
with_rules d rules = record d { rules = rules }

-- after a definition
abbrev pub Rules_follow : PlainSource → PlainSource → PlainDef → Tokens
Rules_follow done s d ts = in_order d.rules ≡ true → (more : List PlainRule) × (in_order (d.rules ++ more) ≡ true) × (each rule more then Ends (add_def done (with_rules d (d.rules ++ more))) s) ts

pub rules_end : (done s : PlainSource) (d : PlainDef) (ts : List Token) → Ends (add_def done d) s ts → Rules_follow done s d ts
rules_end done s d ts h ordered =
    ([], rw append-nil ordered, ([], ts, refl, refl, subst (λ (rules : List PlainRule). Ends (add_def done (with_rules d rules)) s ts) (sym (append-nil d.rules)) h))

pub rule_made : (done s : PlainSource) (d : PlainDef) (r : PlainRule) (front ts : List Token) → rule r front → (in_order d.rules ≡ true → in_order (d.rules ++ r ∷ []) ≡ true)
    → Rules_follow done s (with_rule d r) ts → Rules_follow done s d (front ++ ts)
rule_made done s d r front ts h still follows ordered =
    let k = follows (still ordered) in
    let regroup = append_assoc d.rules (r ∷ []) k.0 in
    let k2 = k.2 in (
      r ∷ k.0,
      subst (λ (rules : List PlainRule). in_order rules ≡ true) regroup k.1,
      (
        front ++ k2.0,
        k2.1,
        ap (λ (f : List Token). front ++ f) k2.2 ∙ sym (append_assoc front k2.0 k2.1),
        (front, k2.0, refl, h, k2.3),
        subst (λ (rules : List PlainRule). Ends (add_def done (with_rules d rules)) s k2.1) regroup k2.4,
      ),
    )

none_fixed : (rules : List PlainRule) → list_all (λ j. not (is_fixed j)) (map (λ r. r.kind) rules) ≡ true → AllByRecursion (λ r. ¬ IsFixed r) rules
none_fixed [] h = tt
none_fixed (r ∷ rules) h =
    let k = both (not (is_fixed r.kind)) (list_all (λ j. not (is_fixed j)) (map (λ r. r.kind) rules)) h in
    (λ fixed. not_fixed r.kind fixed k.0, none_fixed rules k.1)
  where
    not_fixed : (kind : RuleKind) → kind ≡ Fixed → not (is_fixed kind) ≡ true → ⊥
    not_fixed Fixed e h = absurd cc
    not_fixed Required e h = absurd cc
    not_fixed Optional e h = absurd cc

in_order_split : (r : PlainRule) (rules : List PlainRule) (kind : RuleKind) → r.kind ≡ kind
    → cond (is_fixed kind) (in_order rules) (list_all (λ j. not (is_fixed j)) (map (λ r. r.kind) rules)) ≡ true → (in_order rules ≡ true → FixedFirst rules) → FixedFirst (r ∷ rules)
in_order_split r rules Fixed e h before = let k = before h in (r ∷ k.0, k.1, ap (λ (rs : List PlainRule). r ∷ rs) k.2, (e, k.3), k.4)
in_order_split r rules Required e h before = ([], r ∷ rules, refl, tt, (λ fixed. absurd cc, none_fixed rules h))
in_order_split r rules Optional e h before = ([], r ∷ rules, refl, tt, (λ fixed. absurd cc, none_fixed rules h))

pub in_order-fixed : (rules : List PlainRule) → in_order rules ≡ true → FixedFirst rules
in_order-fixed [] h = ([], [], refl, tt, tt)
in_order-fixed (r ∷ rules) h = in_order_split r rules r.kind refl h (in_order-fixed rules)

loose_none : (rules : List PlainRule) → AllByRecursion (λ r. ¬ IsFixed r) rules → list_all (λ j. not (is_fixed j)) (map (λ r. r.kind) rules) ≡ true
loose_none [] h = refl
loose_none (r ∷ rules) (first, others) = rw (not_fixed r.kind first) (loose_none rules others)
  where
    not_fixed : (kind : RuleKind) → ¬ (kind ≡ Fixed) → is_fixed kind ≡ false
    not_fixed Fixed h = absurd (h refl)
    not_fixed Required h = refl
    not_fixed Optional h = refl

loose_in_order : (rules : List PlainRule) → list_all (λ j. not (is_fixed j)) (map (λ r. r.kind) rules) ≡ true → in_order rules ≡ true
loose_in_order [] h = refl
loose_in_order (r ∷ rules) h = let k = both (not (is_fixed r.kind)) (list_all (λ j. not (is_fixed j)) (map (λ r. r.kind) rules)) h in by_test (is_fixed r.kind) k.0 k.1
  where
    by_test : (b : Bool) → not b ≡ true → list_all (λ j. not (is_fixed j)) (map (λ r. r.kind) rules) ≡ true
        → cond b (in_order rules) (list_all (λ j. not (is_fixed j)) (map (λ r. r.kind) rules)) ≡ true
    by_test true e h = absurd cc
    by_test false e h = h

split_in_order : (fixed loose : List PlainRule) → AllByRecursion IsFixed fixed → AllByRecursion (λ r. ¬ IsFixed r) loose → in_order (fixed ++ loose) ≡ true
split_in_order [] loose h k = loose_in_order loose (loose_none loose k)
split_in_order (r ∷ fixed) loose (first, others) k = rw first (split_in_order fixed loose others k)

pub fixed-in_order : (rules : List PlainRule) → FixedFirst rules → in_order rules ≡ true
fixed-in_order rules (fixed, loose, parts, of_fixed, of_loose) = rw parts (split_in_order fixed loose of_fixed of_loose)

pub still_fixed : (rules : List PlainRule) (r : PlainRule) → all_fixed rules ≡ true → r.kind ≡ Fixed → in_order (rules ++ r ∷ []) ≡ true
still_fixed [] r h k = rw k refl
still_fixed (x ∷ rules) r h k = let b = both (is_fixed x.kind) (all_fixed rules) h in rw b.0 (still_fixed rules r b.1 k)

loose_more : (rules : List PlainRule) (r : PlainRule) → is_fixed r.kind ≡ false → list_all (λ j. not (is_fixed j)) (map (λ r. r.kind) rules) ≡ true
    → list_all (λ j. not (is_fixed j)) (map (λ r. r.kind) (rules ++ r ∷ [])) ≡ true
loose_more [] r h k = rw h refl
loose_more (x ∷ rules) r h k = let b = both (not (is_fixed x.kind)) (list_all (λ j. not (is_fixed j)) (map (λ r. r.kind) rules)) k in rw b.0 (loose_more rules r h b.1)

loose_step : (x r : PlainRule) (rules : List PlainRule) (fixed : Bool) → is_fixed r.kind ≡ false
    → cond fixed (in_order rules) (list_all (λ j. not (is_fixed j)) (map (λ r. r.kind) rules)) ≡ true → (in_order rules ≡ true → in_order (rules ++ r ∷ []) ≡ true)
    → cond fixed (in_order (rules ++ r ∷ [])) (list_all (λ j. not (is_fixed j)) (map (λ r. r.kind) (rules ++ r ∷ []))) ≡ true
loose_step x r rules true h k before = before k
loose_step x r rules false h k before = loose_more rules r h k

pub still_loose : (rules : List PlainRule) (r : PlainRule) → is_fixed r.kind ≡ false → in_order rules ≡ true → in_order (rules ++ r ∷ []) ≡ true
still_loose [] r h k = rw h refl
still_loose (x ∷ rules) r h k = loose_step x r rules (is_fixed x.kind) h k (still_loose rules r h)

-- ---- definitions
