-- The text of a table is read back: each line says its pair, and nothing else is between the line feeds.
use Rattle.std.proofs.Common.{◌≡◌, ℕ, ◌-◌, ◌*◌, ◌≤◌, Bool, true, false, not, ◌==◌, ◌&&◌, ◌||◌, List, [], ◌∷◌, ◌++◌, length, map, codes, refl, sym, ap, subst, ◌∙◌, inl, arith}
use Rattle.std.specs.Prelude.{slice_index}
use Rattle.std.specs.List.{list_all, list_any, filter_map, slice_split, AllByRecursion}
use Rattle.std.specs.Char.{is_ascii_alphanumeric, is_ascii_alphabetic}
use Rattle.std.specs.Str.Lines.{lines, lines_of_parts, strip_carriage_return}
use Rattle.std.proofs.lemmas.Bool.{and_parts, and_from, or_left, or_parts, not-true}
use Rattle.std.proofs.lemmas.Bool.Decides.{nat_tests}
use Rattle.std.proofs.lemmas.List.{append_assoc, append-nil, length-append}
use Rattle.std.proofs.lemmas.List.Concat.{flat_map-cons}
use Rattle.std.proofs.lemmas.List.Folds.{list_all-append}
use Rattle.std.proofs.lemmas.List.Sums.{AllPass-from_list_all}
use Rattle.std.proofs.lemmas.List.Splits.{slice_split_at, length-slice_split}
use Rattle.dia_compat.specs.TableText.{PlainTable, Line, Blank, Command, Avp, command_pair, avp_pair, is_run_byte, is_name_run}
use Rattle.dia_compat.specs.TableText.{max_table, IsPair, IsLine, AreLines, HasShortNames, IsTable}
use Rattle.dia_compat.specs.WrittenTable.{pair_text, pair_lines, table_text, AreNames, IsWritable}
use Rattle.dia_compat.proofs.WordsOfLines.{regroup}
use Rattle.dia_compat.proofs.TableLines.{append_lines}

abbrev Pair : Type 0
Pair = List ℕ × List ℕ

-- ---- a line and what follows its end

-- neither a line feed nor a carriage return
abbrev is_line_byte : ℕ → Bool
is_line_byte c = not (c == 10 || c == 13)

no_feed : (c : ℕ) → is_line_byte c ≡ true → (c == 10) ≡ false
no_feed c e = (or_parts (c == 10) (c == 13) (not-true (c == 10 || c == 13) e)).0

no_return : (c : ℕ) → is_line_byte c ≡ true → (c == 13) ≡ false
no_return c e = (or_parts (c == 10) (c == 13) (not-true (c == 10 || c == 13) e)).1

strips_none : (l : List ℕ) → list_all is_line_byte l ≡ true → strip_carriage_return l ≡ l
strips_none [] all = refl
strips_none (c ∷ cs) all =
    let last = AllPass-from_list_all is_line_byte (c ∷ cs) all (length (c ∷ cs) - 1) 0 (omega arith) in
    rw (no_return (slice_index (c ∷ cs) (length (c ∷ cs) - 1)) last) refl

line_then : (l rest : List ℕ) → list_all is_line_byte l ≡ true → lines (l ++ 10 ∷ rest) ≡ l ∷ lines rest
line_then l rest all =
    ap lines_of_parts (slice_split_at (λ b. b == 10) l 10 rest (λ k d within. no_feed _ (AllPass-from_list_all is_line_byte l all k d within)) refl)
    ∙ by (slice_split (λ b. b == 10) rest) refl
  where
    by : (ps : List (List ℕ)) → slice_split (λ b. b == 10) rest ≡ ps → lines_of_parts (l ∷ slice_split (λ b. b == 10) rest) ≡ l ∷ lines rest
    by [] e = absurd (let some = length-slice_split (λ (b : ℕ). b == 10) rest in let none = ap length e in omega arith)
    by (p ∷ ps) e =
        ap (λ (qs : List (List ℕ)). lines_of_parts (l ∷ qs)) e ∙ ap (λ (x : List ℕ). x ∷ lines_of_parts (p ∷ ps)) (strips_none l all)
        ∙ ap (λ (qs : List (List ℕ)). l ∷ lines_of_parts qs) (sym e)

-- ---- the bytes of a pair's line

run_is_line : (c : ℕ) → is_run_byte c ≡ true → is_line_byte c ≡ true
run_is_line c run = grind (arith, nat_tests)

runs_are_line : (r : List ℕ) → list_all is_run_byte r ≡ true → list_all is_line_byte r ≡ true
runs_are_line [] all = refl
runs_are_line (c ∷ r) all =
    let parts = and_parts (is_run_byte c) (list_all is_run_byte r) all in
    and_from (is_line_byte c) (list_all is_line_byte r) (run_is_line c parts.0) (runs_are_line r parts.1)

name_is_line : (name : List ℕ) → is_name_run name ≡ true → list_all is_line_byte name ≡ true
name_is_line [] named = refl
name_is_line (c ∷ cs) named =
    let parts = and_parts (is_ascii_alphanumeric c && list_all is_run_byte cs) (list_any is_ascii_alphabetic (c ∷ cs)) named in
    let front = and_parts (is_ascii_alphanumeric c) (list_all is_run_byte cs) parts.0 in
    and_from (is_line_byte c) (list_all is_line_byte cs) (run_is_line c (or_left (is_ascii_alphanumeric c) (c == 45) front.0)) (runs_are_line cs front.1)

both : (xs ys : List ℕ) → list_all is_line_byte xs ≡ true → list_all is_line_byte ys ≡ true → list_all is_line_byte (xs ++ ys) ≡ true
both xs ys a b = list_all-append is_line_byte xs ys ∙ and_from (list_all is_line_byte xs) (list_all is_line_byte ys) a b

unwound : (word a b : List ℕ) → pair_text word (a, b) ≡ word ++ (codes " " ++ (a ++ (codes " = " ++ b)))
unwound word a b = simp append_assoc

pair_is_line : (word : List ℕ) (p : Pair) → list_all is_line_byte word ≡ true → AreNames p → list_all is_line_byte (pair_text word p) ≡ true
pair_is_line word p plain names =
    ap (list_all is_line_byte) (unwound word p.0 p.1)
    ∙ both word (codes " " ++ (p.0 ++ (codes " = " ++ p.1))) plain
    (both (codes " ") (p.0 ++ (codes " = " ++ p.1)) refl (both p.0 (codes " = " ++ p.1) (name_is_line p.0 names.0) (both (codes " = ") p.1 refl (name_is_line p.1 names.1))))

says_pair : (word : List ℕ) (p : Pair) → AreNames p → IsPair word p.0 p.1 (pair_text word p)
says_pair word p names = record {
  front = [];
  first = codes " ";
  second = codes " ";
  third = codes " ";
  tail = [];
  parts = unwound word p.0 p.1 ∙ ap (λ (b : List ℕ). word ++ (codes " " ++ (p.0 ++ (codes " = " ++ b)))) (sym (append-nil p.1))
      ∙ sym (regroup [] word (codes " ") p.0 (codes " ") (codes "=") (codes " ") p.1 []);
  is_front = refl;
  gaps = ((omega arith, refl), (omega arith, refl), (omega arith, refl));
  is_tail = ([], [], refl, refl, inl refl);
  names = names;
}

-- ---- the lines of pairs

pairs_then : (word : List ℕ) (pairs : List Pair) (rest : List ℕ) → list_all is_line_byte word ≡ true → AllByRecursion AreNames pairs
    → lines (pair_lines word pairs ++ rest) ≡ map (pair_text word) pairs ++ lines rest
pairs_then word [] rest plain named = refl
pairs_then word (p ∷ ps) rest plain named =
    let l = pair_text word p in
    let more = pair_lines word ps in
    let parts : pair_lines word (p ∷ ps) ++ rest ≡ l ++ 10 ∷ (more ++ rest) =
    ap (λ (t : List ℕ). t ++ rest) (flat_map-cons (λ (q : Pair). pair_text word q ++ 10 ∷ []) p ps) ∙ split l more rest in
    ap lines parts ∙ line_then l (more ++ rest) (pair_is_line word p plain named.0) ∙ ap (λ (ts : List (List ℕ)). l ∷ ts) (pairs_then word ps rest plain named.1)
  where
    split : (l more rest : List ℕ) → (l ++ 10 ∷ []) ++ more ++ rest ≡ l ++ 10 ∷ (more ++ rest)
    split l more rest = simp append_assoc

say_pairs : (word : List ℕ) (make : Pair → Line) → ((p : Pair) → AreNames p → IsLine (make p) (pair_text word p)) → (pairs : List Pair) → AllByRecursion AreNames pairs
    → AreLines (map make pairs) (map (pair_text word) pairs)
say_pairs word make each [] named = tt
say_pairs word make each (p ∷ ps) named = (each p named.0, say_pairs word make each ps named.1)

-- ---- the table that they say

abbrev command_line : Pair → Line
command_line p = Command p.0 p.1

abbrev avp_line : Pair → Line
avp_line p = Avp p.0 p.1

commands_said : (cs vs : List Pair) → filter_map command_pair (map command_line cs ++ map avp_line vs) ≡ cs
commands_said [] [] = refl
commands_said [] (p ∷ vs) = commands_said [] vs
commands_said (p ∷ cs) vs = ap (λ (ps : List Pair). p ∷ ps) (commands_said cs vs)

avps_said : (cs vs : List Pair) → filter_map avp_pair (map command_line cs ++ map avp_line vs) ≡ vs
avps_said [] [] = refl
avps_said [] (p ∷ vs) = ap (λ (ps : List Pair). p ∷ ps) (avps_said [] vs)
avps_said (p ∷ cs) vs = avps_said cs vs

lines_of_table : (t : PlainTable) → AllByRecursion AreNames t.commands → AllByRecursion AreNames t.avps
    → lines (table_text t) ≡ map (pair_text (codes "command")) t.commands ++ map (pair_text (codes "avp")) t.avps
lines_of_table t named_commands named_avps =
    let avps = pair_lines (codes "avp") t.avps in
    let last : lines avps ≡ map (pair_text (codes "avp")) t.avps =
    ap lines (sym (append-nil avps)) ∙ pairs_then (codes "avp") t.avps [] refl named_avps ∙ append-nil (map (pair_text (codes "avp")) t.avps) in
    pairs_then (codes "command") t.commands avps refl named_commands ∙ ap (λ (ts : List (List ℕ)). map (pair_text (codes "command")) t.commands ++ ts) last

-- the text of a table is read as this table
pub text_is_table : (t : PlainTable) → IsWritable t → IsTable (table_text t) t
text_is_table t w = (
  map command_line t.commands ++ map avp_line t.avps,
  subst (AreLines (map command_line t.commands ++ map avp_line t.avps)) (sym (lines_of_table t w.commands w.avps))
      (append_lines (map command_line t.commands) (map avp_line t.avps) (map (pair_text (codes "command")) t.commands) (map (pair_text (codes "avp")) t.avps)
      (say_pairs (codes "command") command_line (says_pair (codes "command")) t.commands w.commands)
      (say_pairs (codes "avp") avp_line (says_pair (codes "avp")) t.avps w.avps)),
  λ i. record { commands = sym (commands_said t.commands t.avps) i; avps = sym (avps_said t.commands t.avps) i },
  w.limits,
)

-- ---- its length

pair_short : (word : List ℕ) (p : Pair) → length word ≤ 7 → HasShortNames p → length (pair_text word p ++ 10 ∷ []) ≤ 268
pair_short word p short names =
    let a = length-append word (codes " " ++ (p.0 ++ (codes " = " ++ p.1))) in
    let b = length-append p.0 (codes " = " ++ p.1) in
    let c = ap length (unwound word p.0 p.1) in
    let d = length-append (pair_text word p) (10 ∷ []) in
    omega (arith, a, b, c, d, names.0, names.1)

pairs_short : (word : List ℕ) (pairs : List Pair) → length word ≤ 7 → AllByRecursion HasShortNames pairs → length (pair_lines word pairs) ≤ 268 * length pairs
pairs_short word [] short names = omega arith
pairs_short word (p ∷ ps) short names =
    let a = ap length (flat_map-cons (λ (q : Pair). pair_text word q ++ 10 ∷ []) p ps) in
    let b = length-append (pair_text word p ++ 10 ∷ []) (pair_lines word ps) in
    let c = pair_short word p short names.0 in
    let d = pairs_short word ps short names.1 in
    omega (arith, a, b, c, d)

pub text_fits : (t : PlainTable) → IsWritable t → length (table_text t) ≤ max_table
text_fits t w =
    let few = w.limits.0 in
    let a = pairs_short (codes "command") t.commands (omega arith) w.limits.1 in
    let b = pairs_short (codes "avp") t.avps (omega arith) w.limits.2 in
    omega (arith, few, a, b, length-append (pair_lines (codes "command") t.commands) (pair_lines (codes "avp") t.avps))

-- ---- tables that were read

names_of_commands : (ls : List Line) (ts : List (List ℕ)) → AreLines ls ts → AllByRecursion AreNames (filter_map command_pair ls)
names_of_commands [] ts are = tt
names_of_commands (l ∷ ls) [] are = absurd are
names_of_commands (Blank ∷ ls) (t ∷ ts) are = names_of_commands ls ts are.1
names_of_commands (Command a b ∷ ls) (t ∷ ts) are = (are.0.names, names_of_commands ls ts are.1)
names_of_commands (Avp a b ∷ ls) (t ∷ ts) are = names_of_commands ls ts are.1

names_of_avps : (ls : List Line) (ts : List (List ℕ)) → AreLines ls ts → AllByRecursion AreNames (filter_map avp_pair ls)
names_of_avps [] ts are = tt
names_of_avps (l ∷ ls) [] are = absurd are
names_of_avps (Blank ∷ ls) (t ∷ ts) are = names_of_avps ls ts are.1
names_of_avps (Command a b ∷ ls) (t ∷ ts) are = names_of_avps ls ts are.1
names_of_avps (Avp a b ∷ ls) (t ∷ ts) are = (are.0.names, names_of_avps ls ts are.1)

pub read_is_writable : (text : List ℕ) (t : PlainTable) → IsTable text t → IsWritable t
read_is_writable text t (ls, are, same, limits) = record {
  commands = subst (AllByRecursion AreNames) (sym (ap (λ (s : PlainTable). s.commands) same)) (names_of_commands ls (lines text) are);
  avps = subst (AllByRecursion AreNames) (sym (ap (λ (s : PlainTable). s.avps) same)) (names_of_avps ls (lines text) are);
  limits = limits;
}
