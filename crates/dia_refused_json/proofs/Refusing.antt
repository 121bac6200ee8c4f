-- The texts of inputs that are refused.
use Rattle.std.proofs.Common.{◌≡◌, ◌∙◌, ℕ, ◌-◌, ◌≤◌, List, [], ◌∷◌, ◌++◌, append_assoc, ap, ap₂, arith, drop, flat_map, get_or, length, map, refl, sym, take, codes}
use Rattle.std.specs.Borrow.{Bor}
use Rattle.std.proofs.lemmas.List.{take_all}
use Rattle.std.specs.Fmt.{decimal}
use Rattle.std.specs.Prelude.{string_bytes, true}
use Rattle.json.specs.Print.{quoted}
use Rattle.serde_json.specs.Data.{no_members}
use Rattle.serde_json.specs.Written.{compact_text, items_text}
use Rattle.serde_json.proofs.OnLiterals.{serde_json_on_literals}
use Rattle.dia_dict.specs.declared.fault.DictKind.{DictKind}
use Rattle.dia_dict.specs.declared.fault.DictKind.TheVariants as kind
use Rattle.dia_dict.specs.Words.{kind_word}
use Rattle.dia_report.specs.declared.wrong_source.WrongSource.{WrongSource}
use Rattle.dia_refused_json.specs.Members.{json_line, refused_members}
use Rattle.dia_explain_places.specs.Places.{column_at}
use Rattle.dia_ccf.specs.declared.wanted.Wanted.{Wanted}
use Rattle.dia_explain_places.specs.Expecting.{expected}
use Rattle.dia_refused_json.specs.Refusals.{another, expecting, name_value, on_line, string_items, strings, wrong_members}

-- an input and a kind that are quoted so, and more behind them
abbrev front : List ℕ → List ℕ → List ℕ → List ℕ
front input kind rest = codes "{\"error\":" ++ (input ++ (codes ",\"kind\":" ++ (kind ++ rest)))

abbrev names : List ℕ → List ℕ → List ℕ → List ℕ
names name slot rest = codes ",\"name\":" ++ (name ++ (codes ",\"slot\":" ++ (slot ++ rest)))

line_ends : (input kind : List ℕ) → front input kind (codes "}\n") ≡ front input kind (codes "}") ++ codes "\n"
line_ends input kind = simp append_assoc

names_end : (input kind name slot : List ℕ) → front input kind (names name slot (codes "}\n")) ≡ front input kind (names name slot (codes "}")) ++ codes "\n"
names_end input kind name slot = simp append_assoc

refused_is : (input kind : List ℕ) → json_line (refused_members input kind no_members) ≡ front (quoted input) (quoted kind) (codes "}") ++ codes "\n"
unfolding serde_json_on_literals
refused_is input kind = refl

wrong_is : (input : List ℕ) (found : WrongSource) → json_line (wrong_members input found)
    ≡ front (quoted input) (quoted (kind_word found.kind)) (names (compact_text (name_value (string_bytes found.name))) (compact_text (name_value (string_bytes found.slot))) (codes "}")) ++ codes "\n"
unfolding serde_json_on_literals
wrong_is input found = refl

pub refused_recorded : (input kind a b text : List ℕ) → a ≡ quoted input → b ≡ quoted kind → text ≡ front a b (codes "}\n") → text ≡ json_line (refused_members input kind no_members)
refused_recorded input kind a b text is_a is_b is =
    is ∙ ap₂ (λ (x y : List ℕ). front x y (codes "}\n")) is_a is_b ∙ line_ends (quoted input) (quoted kind) ∙ sym (refused_is input kind)

-- on a line, at a column

abbrev on_text : ℕ → ℕ → List ℕ → List ℕ
on_text n column rest = codes ",\"line\":" ++ (decimal n ++ (codes ",\"column\":" ++ (decimal column ++ rest)))

on_is : (input kind : List ℕ) (n : ℕ) (text : List ℕ) (at : ℕ)
    → json_line (refused_members input kind (on_line n text at)) ≡ front (quoted input) (quoted kind) (on_text n (column_at text at) (codes "}")) ++ codes "\n"
unfolding serde_json_on_literals
on_is input kind n text at = refl

on_ends : (input kind : List ℕ) (n column : ℕ) → front input kind (on_text n column (codes "}\n")) ≡ front input kind (on_text n column (codes "}")) ++ codes "\n"
on_ends input kind n column = simp append_assoc

pub on_recorded : (input kind a b written : List ℕ) (n : ℕ) (text : List ℕ) (at column : ℕ) → a ≡ quoted input → b ≡ quoted kind → column ≡ column_at text at
    → written ≡ front a b (on_text n column (codes "}\n")) → written ≡ json_line (refused_members input kind (on_line n text at))
on_recorded input kind a b written n text at column is_a is_b is_column is =
    is ∙ ap₂ (λ (x y : List ℕ). front x y (on_text n column (codes "}\n"))) is_a is_b
    ∙ ap (λ (k : ℕ). front (quoted input) (quoted kind) (on_text n k (codes "}\n"))) is_column
    ∙ on_ends (quoted input) (quoted kind) n (column_at text at) ∙ sym (on_is input kind n text at)

-- no byte of a kind's word is escaped
kind_is_plain : (k : DictKind) → quoted (kind_word k) ≡ codes "\"" ++ kind_word k ++ codes "\""
unfolding serde_json_on_literals
kind_is_plain kind.Limit = refl
kind_is_plain kind.DuplicateName = refl
kind_is_plain kind.NoGroupFormat = refl
kind_is_plain kind.HeaderMismatch = refl
kind_is_plain kind.DuplicateKey = refl
kind_is_plain kind.DuplicateCommand = refl
kind_is_plain kind.UndefinedName = refl
kind_is_plain kind.RepeatedSlot = refl
kind_is_plain kind.MinOverMax = refl
kind_is_plain kind.RequiredMin = refl
kind_is_plain kind.OptionalMin = refl

abbrev wrong_text : List ℕ → List ℕ → List ℕ → List ℕ → List ℕ
wrong_text input kind name slot = codes "{\"error\":" ++ (input ++ (codes ",\"kind\":\"" ++ (kind ++ (codes "\",\"name\":" ++ (name ++ (codes ",\"slot\":" ++ (slot ++ codes "}\n")))))))

wrong_joined : (input kind name slot : List ℕ) → wrong_text input kind name slot ≡ front input (codes "\"" ++ kind ++ codes "\"") (names name slot (codes "}\n"))
wrong_joined input kind name slot = simp append_assoc

pub wrong_recorded : (input : List ℕ) (found : WrongSource) (a name slot text : List ℕ) → a ≡ quoted input
    → name ≡ compact_text (name_value (string_bytes found.name)) → slot ≡ compact_text (name_value (string_bytes found.slot))
    → text ≡ wrong_text a (kind_word found.kind) name slot → text ≡ json_line (wrong_members input found)
wrong_recorded input found a name slot text is_a is_name is_slot is =
    is ∙ wrong_joined a (kind_word found.kind) name slot ∙ ap₂ (λ (x y : List ℕ). front x y (names name slot (codes "}\n"))) is_a (sym (kind_is_plain found.kind))
    ∙ ap₂ (λ (x y : List ℕ). front (quoted input) (quoted (kind_word found.kind)) (names x y (codes "}\n"))) is_name is_slot
    ∙ names_end (quoted input) (quoted (kind_word found.kind)) _ _ ∙ sym (wrong_is input found)

-- ---- arrays of strings

items_are : (list : List (List ℕ)) → items_text true (string_items list) ≡ flat_map another list ++ codes "]"
items_are [] = refl
items_are (s ∷ list) = ap (λ (t : List ℕ). 44 ∷ (quoted s ++ t)) (items_are list) ∙ sym (append_assoc (another s) (flat_map another list) (codes "]"))

pub array_recorded : (first written begun with_others text : List ℕ) (others : List (List ℕ)) → written ≡ quoted first → begun ≡ codes "[" ++ written
    → with_others ≡ begun ++ flat_map another others → text ≡ with_others ++ codes "]" → text ≡ compact_text (strings (first ∷ others))
array_recorded first written begun with_others text others is_first is_begun is_with is =
    is ∙ ap (λ (t : List ℕ). t ++ codes "]") (is_with ∙ ap (λ (t : List ℕ). t ++ flat_map another others) (is_begun ∙ ap (λ (t : List ℕ). codes "[" ++ t) is_first))
    ∙ append_assoc (codes "[" ++ quoted first) (flat_map another others) (codes "]")
    ∙ ap (λ (t : List ℕ). codes "[" ++ (quoted first ++ t)) (sym (items_are others))

-- the first string of a slice, and the others
pub parts_are : (list : List (Bor (List ℕ))) (d : Bor (List ℕ)) → 1 ≤ length list
    → (get_or list 0 d).now ∷ map (λ (s : Bor (List ℕ)). s.now) (take (length list - 1) (drop 1 list)) ≡ map (λ (s : Bor (List ℕ)). s.now) list
parts_are [] d some = absurd (omega (arith, some))
parts_are (s ∷ list) d some =
    let count : length list ≤ length (s ∷ list) - 1 = omega arith in
    ap (λ (rest : List (Bor (List ℕ))). s.now ∷ map (λ (x : Bor (List ℕ)). x.now) rest) (take_all (length (s ∷ list) - 1) list count)

-- ---- what could stand at a place

abbrev expecting_text : (input line column items rest : List ℕ) → List ℕ
expecting_text input line column items rest = codes "{\"error\":" ++ (input ++ (codes ",\"kind\":\"syntax\",\"line\":" ++ (line ++ (codes ",\"column\":"
    ++ (column ++ (codes ",\"expected\":" ++ (items ++ rest)))))))

expecting_is : (input : List ℕ) (n : ℕ) (text : List ℕ) (at : ℕ) (wanted : Wanted) → json_line (refused_members input (codes "syntax") (expecting n text at wanted))
    ≡ expecting_text (quoted input) (decimal n) (decimal (column_at text at)) (compact_text (strings (expected wanted))) (codes "}") ++ codes "\n"
unfolding serde_json_on_literals
expecting_is input n text at wanted = refl

expecting_ends : (input line column items : List ℕ) → expecting_text input line column items (codes "}\n") ≡ expecting_text input line column items (codes "}") ++ codes "\n"
expecting_ends input line column items = simp append_assoc

pub expecting_recorded : (input a items written : List ℕ) (n : ℕ) (text : List ℕ) (at column : ℕ) (wanted : Wanted) → a ≡ quoted input → column ≡ column_at text at
    → items ≡ compact_text (strings (expected wanted)) → written ≡ expecting_text a (decimal n) (decimal column) items (codes "}\n")
    → written ≡ json_line (refused_members input (codes "syntax") (expecting n text at wanted))
expecting_recorded input a items written n text at column wanted is_a is_column is_items is =
    is ∙ ap₂ (λ (x y : List ℕ). expecting_text x (decimal n) (decimal column) y (codes "}\n")) is_a is_items
    ∙ ap (λ (k : ℕ). expecting_text (quoted input) (decimal n) (decimal k) (compact_text (strings (expected wanted))) (codes "}\n")) is_column
    ∙ expecting_ends (quoted input) (decimal n) (decimal (column_at text at)) (compact_text (strings (expected wanted))) ∙ sym (expecting_is input n text at wanted)
