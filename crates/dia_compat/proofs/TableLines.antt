-- The lines of a table's text: a line says one thing, a text one table, and it has one first line that fits none.
use Rattle.std.proofs.Common.{◌≡◌, ◌≢◌, ℕ, zero, suc, ◌+◌, ◌<◌, ◌≤◌, List, [], ◌∷◌, ◌++◌, length, get_or, take, drop, Some, option_to_list, codes, refl, sym, ap, subst, ◌∙◌, inl, inr, arith}
use Rattle.std.specs.Prelude.{◌⊎◌, slice_get}
use Rattle.std.specs.List.{AllByRecursion}
use Rattle.std.specs.Str.Lines.{lines}
use Rattle.std.proofs.lemmas.Bool.{cases_order}
use Rattle.std.proofs.lemmas.Option.{none-some, same_Some}
use Rattle.std.proofs.lemmas.List.{take-append-drop, take-take, length-append, append-nil}
use Rattle.std.proofs.lemmas.List.Elements.{filter_map-append}
use Rattle.dia_compat.specs.declared.table.TableFault.{TableFault}
use Rattle.dia_compat.specs.declared.table.TableFault.TheVariants as fault
use Rattle.dia_compat.specs.TableText.{PlainTable, most_pairs, Line, Blank, Command, Avp, command_pair, avp_pair, table_of, with_line}
use Rattle.dia_compat.specs.TableText.{IsLine, HasForm, AreLines, HasShortNames, IsWithinLimits, IsTableOf, IsTable, IsFirstFault, IsTableFault}
use Rattle.dia_compat.specs.Words.{first_word, after_word, ArePairWords}
use Rattle.dia_compat.specs.Lines.{Adds, PassesLimit, HasRoom}
use Rattle.dia_compat.proofs.WordsOfLines.{IsWord, pair_words, tail_has_no_word}

-- ---- lines

command_is_word : IsWord (codes "command")
command_is_word = record { some = omega arith; bytes = refl }

avp_is_word : IsWord (codes "avp")
avp_is_word = record { some = omega arith; bytes = refl }

-- the words of a line that says this
abbrev SaysInWords : Line → List ℕ → Type 0
SaysInWords Blank text = first_word text ≡ []
SaysInWords (Command a b) text = (first_word text ≡ codes "command") × ArePairWords a b (after_word text)
SaysInWords (Avp a b) text = (first_word text ≡ codes "avp") × ArePairWords a b (after_word text)

in_words : (l : Line) (text : List ℕ) → IsLine l text → SaysInWords l text
in_words Blank text is = tail_has_no_word text is
in_words (Command a b) text is = pair_words (codes "command") a b text command_is_word is
in_words (Avp a b) text is = pair_words (codes "avp") a b text avp_is_word is

-- with a first word that is none of the two, or with others after it, a line has no form
pub has_no_form : (text : List ℕ) → first_word text ≢ []
    → ((a b : List ℕ) → ArePairWords a b (after_word text) → ((first_word text ≡ codes "command") ⊎ (first_word text ≡ codes "avp")) → ⊥) → ¬ HasForm text
has_no_form text some other (Blank, is) = some (in_words Blank text is)
has_no_form text some other (Command a b, is) = let w = in_words (Command a b) text is in other a b w.1 (inl w.0)
has_no_form text some other (Avp a b, is) = let w = in_words (Avp a b) text is in other a b w.1 (inr w.0)

heads : (x y : ℕ) (xs ys : List ℕ) → x ∷ xs ≡ y ∷ ys → x ≡ y
heads x y xs ys e = cc

no_heads : (x y : ℕ) (xs ys : List ℕ) → x ∷ xs ≡ y ∷ ys → x < y → ⊥
no_heads x y xs ys e less = let same = heads x y xs ys e in omega arith

no_byte : (x : ℕ) (xs : List ℕ) → [] ≡ x ∷ xs → ⊥
no_byte x xs e = cc

same_pair : (a b c d text : List ℕ) → ArePairWords a b text → ArePairWords c d text → (a ≡ c) × (b ≡ d)
same_pair a b c d text p q = (sym p.first ∙ q.first, sym p.second ∙ q.second)

-- a line says one thing
pub one_line : (l m : Line) (text : List ℕ) → IsLine l text → IsLine m text → l ≡ m
one_line l m text x y = by l m (in_words l text x) (in_words m text y)
  where
    by : (l m : Line) → SaysInWords l text → SaysInWords m text → l ≡ m
    by Blank Blank p q = refl
    by Blank (Command a b) p q = absurd (no_byte 99 (codes "ommand") (sym p ∙ q.0))
    by Blank (Avp a b) p q = absurd (no_byte 97 (codes "vp") (sym p ∙ q.0))
    by (Command a b) Blank p q = absurd (no_byte 99 (codes "ommand") (sym q ∙ p.0))
    by (Command a b) (Command c d) p q = let s = same_pair a b c d (after_word text) p.1 q.1 in ap (λ x. Command x b) s.0 ∙ ap (λ y. Command c y) s.1
    by (Command a b) (Avp c d) p q = absurd (no_heads 97 99 (codes "vp") (codes "ommand") (sym q.0 ∙ p.0) (omega arith))
    by (Avp a b) Blank p q = absurd (no_byte 97 (codes "vp") (sym q ∙ p.0))
    by (Avp a b) (Command c d) p q = absurd (no_heads 97 99 (codes "vp") (codes "ommand") (sym p.0 ∙ q.0) (omega arith))
    by (Avp a b) (Avp c d) p q = let s = same_pair a b c d (after_word text) p.1 q.1 in ap (λ x. Avp x b) s.0 ∙ ap (λ y. Avp c y) s.1

-- ---- lists of lines

pub append_lines : (ls ms : List Line) (ts us : List (List ℕ)) → AreLines ls ts → AreLines ms us → AreLines (ls ++ ms) (ts ++ us)
append_lines [] ms [] us a b = b
append_lines [] ms (t ∷ ts) us a b = absurd a
append_lines (l ∷ ls) ms [] us a b = absurd a
append_lines (l ∷ ls) ms (t ∷ ts) us a b = (a.0, append_lines ls ms ts us a.1 b)

split_lines : (ls : List Line) (ts us : List (List ℕ)) → AreLines ls (ts ++ us) → (fs : List Line) × (gs : List Line) × (ls ≡ fs ++ gs) × AreLines fs ts × AreLines gs us
split_lines ls [] us h = ([], ls, refl, tt, h)
split_lines [] (t ∷ ts) us h = absurd h
split_lines (l ∷ ls) (t ∷ ts) us h =
    let r = split_lines ls ts us h.1 in
    (l ∷ r.0, r.1, ap (λ (x : List Line). l ∷ x) r.2, (h.0, r.3), r.4)

one_lines : (ls ms : List Line) (ts : List (List ℕ)) → AreLines ls ts → AreLines ms ts → ls ≡ ms
one_lines [] [] [] a b = refl
one_lines [] (m ∷ ms) [] a b = absurd b
one_lines (l ∷ ls) ms [] a b = absurd a
one_lines [] ms (t ∷ ts) a b = absurd a
one_lines (l ∷ ls) [] (t ∷ ts) a b = absurd b
one_lines (l ∷ ls) (m ∷ ms) (t ∷ ts) a b = ap (λ (x : Line). x ∷ ls) (one_line l m t a.0 b.0) ∙ ap (λ (xs : List Line). m ∷ xs) (one_lines ls ms ts a.1 b.1)

-- ---- tables

table_append : (fs gs : List Line) → table_of (fs ++ gs) ≡ record { commands = (table_of fs).commands ++ (table_of gs).commands; avps = (table_of fs).avps ++ (table_of gs).avps }
table_append fs gs = λ i. record { commands = filter_map-append command_pair fs gs i; avps = filter_map-append avp_pair fs gs i }

table_of-one : (l : Line) → table_of (l ∷ []) ≡ record { commands = option_to_list (command_pair l); avps = option_to_list (avp_pair l) }
table_of-one Blank = refl
table_of-one (Command a b) = refl
table_of-one (Avp a b) = refl

with_line-append : (ls : List Line) (l : Line) → with_line (table_of ls) l ≡ table_of (ls ++ l ∷ [])
with_line-append ls l =
    ap (λ (t : PlainTable). let s : PlainTable = record { commands = (table_of ls).commands ++ t.commands; avps = (table_of ls).avps ++ t.avps } in s) (sym (table_of-one l))
    ∙ sym (table_append ls (l ∷ []))

all_front : {X : Type 0} (P : X → Type 0) (xs ys : List X) → AllByRecursion P (xs ++ ys) → AllByRecursion P xs
all_front P [] ys h = tt
all_front P (x ∷ xs) ys h = (h.0, all_front P xs ys h.1)

front_limits : (fs gs : List Line) → IsWithinLimits (table_of (fs ++ gs)) → IsWithinLimits (table_of fs)
front_limits fs gs h =
    let w = subst IsWithinLimits (table_append fs gs) h in
    let a = (table_of fs).commands in
    let b = (table_of fs).avps in
    let c = (table_of gs).commands in
    let d = (table_of gs).avps in
    let few = w.0 in
    (omega (arith, few, length-append a c, length-append b d), all_front HasShortNames a c w.1, all_front HasShortNames b d w.2)

all_append : {X : Type 0} (P : X → Type 0) (xs ys : List X) → AllByRecursion P xs → AllByRecursion P ys → AllByRecursion P (xs ++ ys)
all_append P [] ys h k = k
all_append P (x ∷ xs) ys h k = (h.0, all_append P xs ys h.1 k)

-- a pair more is within the limits where there is room for it
pub adds_command : (line a b : List ℕ) (old new : PlainTable) → IsWithinLimits old → IsLine (Command a b) line → HasRoom old (a, b) → new.commands ≡ old.commands ++ (a, b) ∷ []
    → new.avps ≡ old.avps → Adds line old new
adds_command line a b old new limits is room commands avps = record {
  said = Command a b;
  is_line = is;
  added = λ i. record { commands = commands i; avps = (avps ∙ sym (append-nil old.avps)) i };
  limits = (
    omega (arith, room.0, ap length commands, ap length avps, length-append old.commands ((a, b) ∷ [])),
    subst (AllByRecursion HasShortNames) (sym commands) (all_append HasShortNames old.commands ((a, b) ∷ []) limits.1 (room.1, tt)),
    subst (AllByRecursion HasShortNames) (sym avps) limits.2,
  );
}

pub adds_avp : (line a b : List ℕ) (old new : PlainTable) → IsWithinLimits old → IsLine (Avp a b) line → HasRoom old (a, b) → new.commands ≡ old.commands
    → new.avps ≡ old.avps ++ (a, b) ∷ [] → Adds line old new
adds_avp line a b old new limits is room commands avps = record {
  said = Avp a b;
  is_line = is;
  added = λ i. record { commands = (commands ∙ sym (append-nil old.commands)) i; avps = avps i };
  limits = (
    omega (arith, room.0, ap length commands, ap length avps, length-append old.avps ((a, b) ∷ [])),
    subst (AllByRecursion HasShortNames) (sym commands) limits.1,
    subst (AllByRecursion HasShortNames) (sym avps) (all_append HasShortNames old.avps ((a, b) ∷ []) limits.2 (room.1, tt)),
  );
}

all_last : {X : Type 0} (P : X → Type 0) (xs : List X) (x : X) → AllByRecursion P (xs ++ x ∷ []) → P x
all_last P [] x h = h.0
all_last P (y ∷ ys) x h = all_last P ys x h.1

abbrev no_pairs : List (List ℕ × List ℕ)
no_pairs = []

-- and passes a limit where there is none
pub passes_command : (line a b : List ℕ) (old : PlainTable) → IsLine (Command a b) line → ¬ HasRoom old (a, b) → PassesLimit line old
passes_command line a b old is full = record {
  said = Command a b;
  is_line = is;
  passed = λ w.
      let few : length (old.commands ++ (a, b) ∷ []) + length (old.avps ++ no_pairs) ≤ most_pairs = w.0 in
      full (omega (arith, few, length-append old.commands ((a, b) ∷ []), length-append old.avps no_pairs), all_last HasShortNames old.commands (a, b) w.1);
}

pub passes_avp : (line a b : List ℕ) (old : PlainTable) → IsLine (Avp a b) line → ¬ HasRoom old (a, b) → PassesLimit line old
passes_avp line a b old is full = record {
  said = Avp a b;
  is_line = is;
  passed = λ w.
      let few : length (old.commands ++ no_pairs) + length (old.avps ++ (a, b) ∷ []) ≤ most_pairs = w.0 in
      full (omega (arith, few, length-append old.commands no_pairs, length-append old.avps ((a, b) ∷ [])), all_last HasShortNames old.avps (a, b) w.2);
}

-- the front of a table's text is one's too
front_table : (xs ys : List (List ℕ)) (t : PlainTable) → IsTableOf (xs ++ ys) t → (s : PlainTable) × IsTableOf xs s
front_table xs ys t (ls, are, same, limits) =
    let r = split_lines ls xs ys are in
    (table_of r.0, (r.0, r.3, refl, front_limits r.0 r.1 (subst IsWithinLimits (same ∙ ap table_of r.2) limits)))

front_of_front : (n k : ℕ) (ts : List (List ℕ)) (t : PlainTable) → n ≤ k → IsTableOf (take k ts) t → (s : PlainTable) × IsTableOf (take n ts) s
front_of_front n k ts t less h =
    let parts : take k ts ≡ take n ts ++ drop n (take k ts) = sym (take-append-drop n (take k ts)) ∙ ap (λ (xs : List (List ℕ)). xs ++ drop n (take k ts)) (take-take n k ts less) in
    front_table (take n ts) (drop n (take k ts)) t (subst (λ (xs : List (List ℕ)). IsTableOf xs t) parts h)

-- lines say one table
pub one_table_of : (ts : List (List ℕ)) (a b : PlainTable) → IsTableOf ts a → IsTableOf ts b → a ≡ b
one_table_of ts a b (ls, are, same, limits) (ms, be, as_well, bounds) = same ∙ ap table_of (one_lines ls ms ts are be) ∙ sym as_well

-- ---- one line more

take_more_at : (ts : List (List ℕ)) (k : ℕ) (line : List ℕ) → slice_get ts k ≡ Some line → take (suc k) ts ≡ take k ts ++ line ∷ []
take_more_at [] k line at = absurd (none-some line at)
take_more_at (t ∷ ts) zero line at = ap (λ (x : List ℕ). x ∷ []) (same_Some t line at)
take_more_at (t ∷ ts) (suc k) line at = ap (λ (xs : List (List ℕ)). t ∷ xs) (take_more_at ts k line at)

pub table_more : (ts : List (List ℕ)) (k : ℕ) (line : List ℕ) (old new : PlainTable) → slice_get ts k ≡ Some line → IsTableOf (take k ts) old → Adds line old new → IsTableOf (take (suc k) ts) new
table_more ts k line old new at (ls, are, same, limits) adds =
    let whole = append_lines ls (adds.said ∷ []) (take k ts) (line ∷ []) are (adds.is_line, tt) in (
      ls ++ adds.said ∷ [],
      subst (AreLines (ls ++ adds.said ∷ [])) (sym (take_more_at ts k line at)) whole,
      adds.added ∙ ap (λ (t : PlainTable). with_line t adds.said) same ∙ with_line-append ls adds.said,
      adds.limits,
    )

-- what the lines so far say with one line more
last_line : (ts : List (List ℕ)) (k : ℕ) (line : List ℕ) (t : PlainTable) → slice_get ts k ≡ Some line → IsTableOf (take (suc k) ts) t
    → (ls : List Line) × (l : Line) × AreLines ls (take k ts) × IsLine l line × (t ≡ with_line (table_of ls) l) × IsWithinLimits t
last_line ts k line t at (ls, are, same, limits) =
    let r = split_lines ls (take k ts) (line ∷ []) (subst (AreLines ls) (take_more_at ts k line at) are) in
    by r.0 r.1 (same ∙ ap table_of r.2) r.3 r.4
  where
    by : (fs gs : List Line) → t ≡ table_of (fs ++ gs) → AreLines fs (take k ts) → AreLines gs (line ∷ []) → (ls : List Line) × (l : Line) × AreLines ls (take k ts) × IsLine l line ×
        (t ≡ with_line (table_of ls) l) × IsWithinLimits t
    by fs [] e a b = absurd b
    by fs (l ∷ []) e a b = (fs, l, a, b.0, e ∙ sym (with_line-append fs l), limits)
    by fs (l ∷ m ∷ gs) e a b = absurd b.1

pub syntax_fault : (ts : List (List ℕ)) (k : ℕ) (line : List ℕ) (t : PlainTable) → slice_get ts k ≡ Some line → IsTableOf (take k ts) t → ¬ HasForm line → IsFirstFault ts k line
syntax_fault ts k line t at before none = record {
  is_line = at;
  before = (t, before);
  here = λ table is. let r = last_line ts k line table at is in none (r.1, r.3);
}

pub limit_fault : (ts : List (List ℕ)) (k : ℕ) (line : List ℕ) (t : PlainTable) → slice_get ts k ≡ Some line → IsTableOf (take k ts) t → PassesLimit line t → IsFirstFault ts k line
limit_fault ts k line t at before passes = record {
  is_line = at;
  before = (t, before);
  here = λ table is.
      let r = last_line ts k line table at is in
      let first : table_of r.0 ≡ t = ap table_of (one_lines r.0 before.0 (take k ts) r.2 before.1) ∙ sym before.2 in
      let said : r.1 ≡ passes.said = one_line r.1 passes.said line r.3 passes.is_line in
      passes.passed (subst IsWithinLimits (r.4 ∙ ap (λ (s : PlainTable). with_line s r.1) first ∙ ap (with_line t) said) r.5);
}

-- ---- one fault

pub fault_is_no_table : (ts : List (List ℕ)) (k : ℕ) (line : List ℕ) (t : PlainTable) → IsFirstFault ts k line → ¬ IsTableOf ts t
fault_is_no_table ts k line t first is =
    let s = front_table (take (suc k) ts) (drop (suc k) ts) t (subst (λ (xs : List (List ℕ)). IsTableOf xs t) (sym (take-append-drop (suc k) ts)) is) in
    first.here s.0 s.1

no_earlier_fault : (ts : List (List ℕ)) (k j : ℕ) (x y : List ℕ) → IsFirstFault ts k x → IsFirstFault ts j y → k < j → ⊥
no_earlier_fault ts k j x y first second less =
    let s = front_of_front (suc k) j ts second.before.0 (omega arith) second.before.1 in
    first.here s.0 s.1

one_place : (ts : List (List ℕ)) (k j : ℕ) (x y : List ℕ) → IsFirstFault ts k x → IsFirstFault ts j y → k ≡ j
one_place ts k j x y first second = by (cases_order k j)
  where
    by : (k ≡ j) ⊎ ((k < j) ⊎ (j < k)) → k ≡ j
    by (inl same) = same
    by (inr (inl less)) = absurd (no_earlier_fault ts k j x y first second less)
    by (inr (inr more)) = absurd (no_earlier_fault ts j k y x second first more)

same_line : (ts : List (List ℕ)) (k j : ℕ) (x y : List ℕ) → IsFirstFault ts k x → IsFirstFault ts j y → x ≡ y
same_line ts k j x y first second = same_Some x y (sym first.is_line ∙ ap (slice_get ts) (one_place ts k j x y first second) ∙ second.is_line)

pub one_fault : (text : List ℕ) (a b : TableFault) → IsTableFault text a → IsTableFault text b → a ≢ fault.NoMemory → b ≢ fault.NoMemory → a ≡ b
one_fault text (fault.Syntax n) (fault.Syntax m) (k, x, en, p, f) (j, y, em, q, g) c d = ap (λ i. fault.Syntax i) (en ∙ ap suc (one_place (lines text) k j x y p q) ∙ sym em)
one_fault text (fault.Limit n) (fault.Limit m) (k, x, en, p, f) (j, y, em, q, g) c d = ap (λ i. fault.Limit i) (en ∙ ap suc (one_place (lines text) k j x y p q) ∙ sym em)
one_fault text (fault.Syntax n) (fault.Limit m) (k, x, en, p, f) (j, y, em, q, g) c d = absurd (f (subst HasForm (sym (same_line (lines text) k j x y p q)) g))
one_fault text (fault.Limit n) (fault.Syntax m) (k, x, en, p, f) (j, y, em, q, g) c d = absurd (g (subst HasForm (same_line (lines text) k j x y p q) f))
one_fault text fault.NoMemory b x y c d = absurd (c refl)
one_fault text (fault.Syntax n) fault.NoMemory x y c d = absurd (d refl)
one_fault text (fault.Limit n) fault.NoMemory x y c d = absurd (d refl)

pub fault_or_table : (text : List ℕ) (a : TableFault) (t : PlainTable) → IsTableFault text a → a ≢ fault.NoMemory → ¬ IsTable text t
fault_or_table text (fault.Syntax n) t (k, x, e, p, f) c is = fault_is_no_table (lines text) k x t p is
fault_or_table text (fault.Limit n) t (k, x, e, p, f) c is = fault_is_no_table (lines text) k x t p is
fault_or_table text fault.NoMemory t x c is = c refl

-- ---- the lines of a text

pub line_at : (ts : List (List ℕ)) (i : ℕ) (line : List ℕ) → i < length ts → line ≡ get_or ts i line → slice_get ts i ≡ Some line
line_at [] i line within is = absurd (omega arith)
line_at (t ∷ ts) zero line within is = ap (λ (x : List ℕ). Some x) (sym is)
line_at (t ∷ ts) (suc i) line within is = line_at ts i line (omega arith) is
