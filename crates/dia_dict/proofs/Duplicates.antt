-- Names, keys and selectors that occur twice.
use Rattle.std.proofs.Common.{◌≡◌, ℕ, Bool, true, List, [], ◌∷◌, ◌++◌, map, find, cond, Option, Some, refl, sym, ap, ◌∙◌, Bor}
use Rattle.std.specs.Prelude.{not}
use Rattle.std.specs.List.{list_all}
use Rattle.std.specs.Option.{option_map_or}
use Rattle.std.specs.Str.{bytes_eq}
use Rattle.std.proofs.lemmas.Bool.{and_parts, and_from}
use Rattle.std.proofs.lemmas.List.Folds.{list_all-append, list_all-map}
use Rattle.dia_wire.specs.declared.Key.{Key}
use Rattle.dia_ccf.specs.declared.source.Head.{Head}
use Rattle.dia_ccf.specs.declared.source.Source.{Source}
use Rattle.dia_ccf.specs.Names.{is_group}
use Rattle.dia_ccf.specs.Plain.{PlainDef, plain_def, plain_source}
use Rattle.dia_book.specs.Keys.{same_key}
use Rattle.dia_dict.specs.declared.findings.Part.{Part}
use Rattle.dia_dict.specs.declared.findings.PartKind.TheVariants as part
use Rattle.dia_dict.specs.declared.selectors.Selector.{Selector}
use Rattle.dia_dict.specs.Resolution.{Wrong, finding, part_at, placed, placed_commands, first_defs, same_def_name, repeats, again, same_selector, head_of}
use Rattle.dia_dict.specs.Selectors.{selector_of}
use Rattle.dia_dict.proofs.Firsts.{list_all-firsts}
use Rattle.dia_dict.proofs.Placing.{placed-members}

abbrev pub text_of : Bor (List ℕ) → List ℕ
text_of t = t.now

abbrev pub same_text : Bor (List ℕ) → Bor (List ℕ) → Bool
same_text a b = bytes_eq a.now b.now

abbrev pub same_named : List ℕ × Key → List ℕ × Key → Bool
same_named a b = same_key a.1 b.1

-- ---- selectors of commands

abbrev pub same_command : PlainDef → PlainDef → Bool
same_command a b = same_selector a.head b.head

abbrev pub is_command : Part × PlainDef → Bool
is_command d = not (is_group d.1.head)

-- two tests that are equal at all members find the same
find-agree : {X : Type 0} (p f g : X → Bool) → ((x : X) → p x ≡ true → f x ≡ g x) → (xs : List X) → list_all p xs ≡ true → find f xs ≡ find g xs
find-agree p f g agree [] all = refl
find-agree {X} p f g agree (x ∷ xs) all =
    let parts = and_parts (p x) (list_all p xs) all in
    ap (λ (o : Option X). cond (f x) (Some x) o) (find-agree p f g agree xs parts.1) ∙ ap (λ b. cond b (Some x) (find g xs)) (agree x parts.0)

-- repeats under two tests that are equal at all members
repeats-agree : {X : Type 0} (p : X → Bool) (same like : X → X → Bool) → ((a b : X) → p a ≡ true → p b ≡ true → same a b ≡ like a b)
    → (earlier xs : List X) → list_all p earlier ≡ true → list_all p xs ≡ true → repeats same earlier xs ≡ repeats like earlier xs
repeats-agree p same like agree earlier [] before all = refl
repeats-agree {X} p same like agree earlier (x ∷ xs) before all =
    let parts = and_parts (p x) (list_all p xs) all in
    let here : list_all p (earlier ++ x ∷ []) ≡ true = list_all-append p earlier (x ∷ []) ∙ and_from _ _ before (and_from _ _ parts.0 refl) in
    let rest = repeats-agree p same like agree (earlier ++ x ∷ []) xs here parts.1 in
    ap (λ (ys : List (X × X)). option_map_or (λ y. (x, y) ∷ ys) (find (same x) earlier) ys) rest
    ∙ ap (λ (o : Option X). option_map_or (λ y. (x, y) ∷ repeats like (earlier ++ x ∷ []) xs) o (repeats like (earlier ++ x ∷ []) xs))
    (find-agree p (same x) (like x) (λ y h. agree x y parts.0 h) earlier before)

-- the first commands of a source are commands
pub first_commands-are : (s : Source) → list_all is_command (first_defs (placed_commands (plain_source s))) ≡ true
first_commands-are s =
    let all = placed (part_at part.Command) (map plain_def s.commands.items) in
    let members : list_all is_command all ≡ true = sym (list_all-map (λ (d : PlainDef). not (is_group d.head)) (λ (d : Part × PlainDef). d.1) all)
    ∙ ap (list_all (λ (d : PlainDef). not (is_group d.head))) (placed-members (part_at part.Command) (map plain_def s.commands.items))
    ∙ list_all-map (λ (d : PlainDef). not (is_group d.head)) plain_def s.commands.items ∙ s.commanded in
    list_all-firsts is_command (λ a b. same_def_name a.1 b.1) [] all members

-- commands that are compared by the selectors of their heads
pub again-selectors : (eq : Selector → Selector → Bool)
    → ((a b : Head) → not (is_group a) ≡ true → not (is_group b) ≡ true → eq (selector_of (head_of a)) (selector_of (head_of b)) ≡ same_selector a b)
    → (bad : PlainDef → Wrong) (commands : List (Part × PlainDef)) → list_all is_command commands ≡ true
    → again (λ a b. eq (selector_of (head_of a.head)) (selector_of (head_of b.head))) bad commands ≡ again same_command bad commands
again-selectors eq alike bad commands all =
    ap (map (λ (p : (Part × PlainDef) × (Part × PlainDef)). finding (bad p.0.1) p.0.0 (Some p.1.0)))
    (repeats-agree is_command (λ a b. eq (selector_of (head_of a.1.head)) (selector_of (head_of b.1.head))) (λ a b. same_command a.1 b.1) (λ a b f g. alike a.1.head b.1.head f g) [] commands refl all)
