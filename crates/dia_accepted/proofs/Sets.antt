-- Look-ups of texts, and what they say of the lines of a list.
use Rattle.std.proofs.Common.{◌≡◌, ℕ, suc, ◌+◌, ◌<◌, Bool, true, false, cond, List, [], ◌∷◌, ◌++◌, map, take, get_or, length, String, refl, sym, ap, subst, ◌∙◌, append_assoc, arith}
use Rattle.std.specs.Global.{Global, Vec}
use Rattle.std.specs.Prelude.{◌==◌, ◌||◌, ◌&&◌, Option, Some, None, filter, is_some, not, string_bytes, unwrap_or}
use Rattle.std.specs.List.{AllByRecursion, list_any}
use Rattle.std.specs.Str.{bytes_eq}
use Rattle.std.proofs.lemmas.Bool.{eqb-true}
use Rattle.std.proofs.lemmas.Bool.Decides.{same_from_decides}
use Rattle.std.proofs.lemmas.Slice.Eq.{bytes_eq-Decides}
use Rattle.std.proofs.lemmas.List.{map-append, take_more}
use Rattle.std.proofs.lemmas.List.Elements.{filter-append}
use Rattle.std.proofs.lemmas.List.Folds.{list_any-append}
use Rattle.indexmap.specs.IndexMap.{insert_entry}
use Rattle.dia_accepted.specs.declared.accepting.Accepting.{Accepting}
use Rattle.dia_accepted.specs.declared.list.Entry.{Entry}
use Rattle.dia_accepted.specs.Accepted.{PlainEntry, PlainRecorded, accepts, is_about, plain_entry, unused_of}
use Rattle.dia_accepted.specs.Seen.{HasSeen, entry_with, mark, unmarked}
use Rattle.dia_accepted.specs.Sets.{bytes_of, found, has}
use Rattle.dia_accepted.specs.Words.{anywhere, command_in, counted}

-- ---- tests

pub same_either_way : (x y : List ℕ) → bytes_eq x y ≡ bytes_eq y x
same_either_way x y =
    let d = bytes_eq-Decides y x in
    same_from_decides (bytes_eq x y) (bytes_eq y x) (bytes_eq-Decides x y) ((λ e. sym (d.0 e)), (λ e. d.1 (sym e)))

pub or_true : (a : Bool) → (a || true) ≡ true
or_true true = refl
or_true false = refl

pub or_false : (a : Bool) → (a || false) ≡ a
or_false true = refl
or_false false = refl

and_false : (a : Bool) → (a && false) ≡ false
and_false true = refl
and_false false = refl

and_true : (a : Bool) → (a && true) ≡ a
and_true true = refl
and_true false = refl

-- ---- what a map has

abbrev pub same_vec : Vec ℕ → Vec ℕ → Bool
same_vec a b = bytes_eq (bytes_of a) (bytes_of b)

module _ {X : Type 0} (k : Vec ℕ) (v : X) (x : List ℕ) where
  here : (b : Bool) (w : X) (r : Option X) → cond b (Some v) r ≡ cond b (Some v) (cond b (Some w) r)
  here true w r = refl
  here false w r = refl

  there : (b : Bool) (e : Vec ℕ × X) (es : List (Vec ℕ × X)) → bytes_eq x (bytes_of e.0) ≡ b → bytes_eq (bytes_of k) (bytes_of e.0) ≡ false
      → found (insert_entry same_vec es k v) x ≡ cond (bytes_eq x (bytes_of k)) (Some v) (found es x)
      → cond b (Some e.1) (found (insert_entry same_vec es k v) x) ≡ cond (bytes_eq x (bytes_of k)) (Some v) (cond b (Some e.1) (found es x))
  there true e es g h rest =
      let same = (bytes_eq-Decides x (bytes_of e.0)).0 g in
      let not_k : bytes_eq x (bytes_of k) ≡ false = ap (λ (w : List ℕ). bytes_eq w (bytes_of k)) same ∙ same_either_way (bytes_of e.0) (bytes_of k) ∙ h in
      sym (ap (λ (b : Bool). cond b (Some v) (Some e.1)) not_k)
  there false e es g h rest = rest

  by : (b : Bool) (e : Vec ℕ × X) (es : List (Vec ℕ × X)) → bytes_eq (bytes_of k) (bytes_of e.0) ≡ b
      → found (insert_entry same_vec es k v) x ≡ cond (bytes_eq x (bytes_of k)) (Some v) (found es x)
      → found (cond b ((e.0, v) ∷ es) (e ∷ insert_entry same_vec es k v)) x ≡ cond (bytes_eq x (bytes_of k)) (Some v) (found (e ∷ es) x)
  by true e es h rest =
      let same = (bytes_eq-Decides (bytes_of k) (bytes_of e.0)).0 h in
      here (bytes_eq x (bytes_of e.0)) e.1 (found es x) ∙ ap (λ (w : List ℕ). cond (bytes_eq x w) (Some v) (found (e ∷ es) x)) (sym same)
  by false e es h rest = there (bytes_eq x (bytes_of e.0)) e es refl h rest

  -- once the pair is inserted
  pub found_insert : (es : List (Vec ℕ × X)) → found (insert_entry same_vec es k v) x ≡ cond (bytes_eq x (bytes_of k)) (Some v) (found es x)
  found_insert [] = refl
  found_insert (e ∷ es) = by (bytes_eq (bytes_of k) (bytes_of e.0)) e es refl (found_insert es)

-- ---- the texts of a list

abbrev is_text : List ℕ → PlainEntry → Bool
is_text x e = bytes_eq x e.counted

-- what is known of a text, where it is so of those that lines have
abbrev mark_by : List PlainEntry → (List ℕ → Bool) → List ℕ → Option Bool
mark_by list m x = cond (list_any (is_text x) list) (Some (m x)) None

abbrev recorded_as : List PlainRecorded → List ℕ → Bool
recorded_as recorded x = list_any (λ t. accepts t.words (entry_with x)) recorded

has_mark : (list : List PlainEntry) (m : List ℕ → Bool) (x : List ℕ) → is_some (mark_by list m x) ≡ list_any (is_text x) list
has_mark list m x = by (list_any (is_text x) list)
  where
    by : (b : Bool) → is_some (cond b (Some (m x)) None) ≡ b
    by true = refl
    by false = refl

-- one line of the list more
pub texts_more : (list : List Entry) (i : ℕ) (e : Entry) (k : Vec ℕ) (old new : List (Vec ℕ × Bool)) → i < length list → e ≡ get_or list i e → bytes_of k ≡ e.counted.items
    → new ≡ insert_entry same_vec old k false → ((x : List ℕ) → found old x ≡ mark (map plain_entry (take i list)) [] x)
    → (x : List ℕ) → found new x ≡ mark (map plain_entry (take (i + 1) list)) [] x
texts_more list i e k old new less is text inserted before x =
    let front = map plain_entry (take i list) in
    let taken = ap (map plain_entry) (take_more list i e less ∙ ap (λ (y : Entry). take i list ++ y ∷ []) (sym is)) ∙ map-append plain_entry (take i list) (e ∷ []) in
    ap (λ (es : List (Vec ℕ × Bool)). found es x) inserted ∙ found_insert k false x old
    ∙ (λ j. cond (bytes_eq x (text j)) (Some false) (before x j)) ∙ by (bytes_eq x e.counted.items) (list_any (is_text x) front)
    ∙ ap (λ (b : Bool). cond b (Some false) None) (sym (list_any-append (is_text x) front (plain_entry e ∷ [])))
    ∙ ap (λ (es : List PlainEntry). mark es [] x) (sym taken)
  where
    by : (a b : Bool) → cond a (Some false) (cond b (Some false) None) ≡ cond (b || (a || false)) (Some false) None
    by true true = refl
    by true false = refl
    by false true = refl
    by false false = refl

-- ---- a line that comes

module _ (list : List PlainEntry) (m : List ℕ → Bool) (old new : List (Vec ℕ × Bool)) (text : List ℕ) where
  abbrev also : List ℕ → Bool
  also x = m x || bytes_eq x text

  -- a text is marked, if it is there
  text_marked : ((x : List ℕ) → found old x ≡ mark_by list m x) → ((x : List ℕ) → found new x ≡ cond (has old text && bytes_eq x text) (Some true) (found old x))
      → (x : List ℕ) → found new x ≡ mark_by list also x
  text_marked before made x =
      made x ∙ (λ j. cond (is_some (before text j) && bytes_eq x text) (Some true) (before x j))
      ∙ ap (λ (b : Bool). cond (b && bytes_eq x text) (Some true) (mark_by list m x)) (has_mark list m text) ∙ by (bytes_eq x text) refl
    where
      marked : (b c : Bool) → cond b (Some true) (cond b (Some c) None) ≡ cond b (Some (c || true)) None
      marked true c = ap (λ (d : Bool). Some d) (sym (or_true c))
      marked false c = refl

      by : (b : Bool) → bytes_eq x text ≡ b → cond (list_any (is_text text) list && b) (Some true) (mark_by list m x) ≡ cond (list_any (is_text x) list) (Some (m x || b)) None
      by true e =
          let same = (bytes_eq-Decides x text).0 e in
          ap (λ (b : Bool). cond b (Some true) (mark_by list m x)) (and_true (list_any (is_text text) list) ∙ ap (λ (t : List ℕ). list_any (is_text t) list) (sym same))
          ∙ marked (list_any (is_text x) list) (m x)
      by false e =
          ap (λ (b : Bool). cond b (Some true) (mark_by list m x)) (and_false (list_any (is_text text) list))
          ∙ ap (λ (b : Bool). cond (list_any (is_text x) list) (Some b) None) (sym (or_false (m x)))

regrouped : (a b c : Bool) → ((a || b) || c) ≡ (a || ((b || c) || false))
regrouped true b c = refl
regrouped false true c = refl
regrouped false false true = refl
regrouped false false false = refl

-- both texts of a line are marked
pub line_marked : (list : List PlainEntry) (recorded : List PlainRecorded) (t : PlainRecorded) (own any : List ℕ) (old mid new : List (Vec ℕ × Bool)) → own ≡ counted t.words → any ≡ anywhere t.words
    → ((x : List ℕ) → found old x ≡ mark list recorded x) → ((x : List ℕ) → found mid x ≡ cond (has old own && bytes_eq x own) (Some true) (found old x))
    → ((x : List ℕ) → found new x ≡ cond (has mid any && bytes_eq x any) (Some true) (found mid x)) → (x : List ℕ) → found new x ≡ mark list (recorded ++ t ∷ []) x
line_marked list recorded t own any old mid new own_is any_is before first second x =
    text_marked list (λ y. recorded_as recorded y || bytes_eq y own) mid new any (text_marked list (recorded_as recorded) old mid own before first) second x
    ∙ ap (λ (b : Bool). cond (list_any (is_text x) list) (Some b) None) (
    (λ j. (recorded_as recorded x || bytes_eq x (own_is j)) || bytes_eq x (any_is j)) ∙ regrouped (recorded_as recorded x) (bytes_eq x (counted t.words)) (bytes_eq x (anywhere t.words))
    ∙ (λ j. recorded_as recorded x || ((same_either_way x (counted t.words) j || same_either_way x (anywhere t.words) j) || false))
    ∙ sym (list_any-append (λ (s : PlainRecorded). accepts s.words (entry_with x)) recorded (t ∷ []))
    )

any_either : (a b : List ℕ) (list : List PlainEntry) → (list_any (is_text a) list || list_any (is_text b) list) ≡ list_any (λ (e : PlainEntry). bytes_eq a e.counted || bytes_eq b e.counted) list
any_either a b [] = refl
any_either a b (e ∷ list) =
    swapped (bytes_eq a e.counted) (list_any (is_text a) list) (bytes_eq b e.counted) (list_any (is_text b) list) ∙ ap (λ (r : Bool). (bytes_eq a e.counted || bytes_eq b e.counted) || r) (any_either a b list)
  where
    swapped : (a b c d : Bool) → ((a || b) || (c || d)) ≡ ((a || c) || (b || d))
    swapped true b c d = refl
    swapped false true true d = refl
    swapped false true false d = refl
    swapped false false c d = refl

-- a line is accepted where the list has one of its two texts
pub accepted_by : (list : List PlainEntry) (recorded : List PlainRecorded) (words own any : List ℕ) (old mid : List (Vec ℕ × Bool)) (first second known : Bool) → own ≡ counted words → any ≡ anywhere words
    → ((x : List ℕ) → found old x ≡ mark list recorded x) → ((x : List ℕ) → found mid x ≡ cond (has old own && bytes_eq x own) (Some true) (found old x))
    → first ≡ has old own → second ≡ has mid any → known ≡ (first || second) → known ≡ list_any (accepts words) list
accepted_by list recorded words own any old mid first second known own_is any_is before marked is_first is_second is =
    let one = is_first ∙ ap is_some (before own) ∙ has_mark list (recorded_as recorded) own in
    let two = is_second ∙ ap is_some (text_marked list (recorded_as recorded) old mid own before marked any) ∙ has_mark list (λ y. recorded_as recorded y || bytes_eq y own) any in
    is ∙ (λ j. (one j || two j)) ∙ any_either own any list ∙ (λ j. list_any (λ (e : PlainEntry). bytes_eq (own_is j) e.counted || bytes_eq (any_is j) e.counted) list)

-- ---- lines that accept nothing

-- each line of a list is one of it
each_in : (front list : List PlainEntry) → AllByRecursion (λ e. list_any (is_text e.counted) (front ++ list) ≡ true) list
each_in front [] = tt
each_in front (e ∷ list) = (
  list_any-append (is_text e.counted) front (e ∷ list)
      ∙ ap (λ (b : Bool). list_any (is_text e.counted) front || (b || list_any (is_text e.counted) list)) ((bytes_eq-Decides e.counted e.counted).1 refl)
      ∙ or_true (list_any (is_text e.counted) front),
  subst (λ (l : List PlainEntry). AllByRecursion (λ x. list_any (is_text x.counted) l ≡ true) list) (append_assoc front (e ∷ []) list) (each_in (front ++ e ∷ []) list),
)

unmarked_unused : (all list : List PlainEntry) (recorded : List PlainRecorded) (es : List (Vec ℕ × Bool)) → ((x : List ℕ) → found es x ≡ mark all recorded x)
    → AllByRecursion (λ e. list_any (is_text e.counted) all ≡ true) list → unmarked es list ≡ unused_of list recorded
unmarked_unused all [] recorded es marks inside = refl
unmarked_unused all (e ∷ list) recorded es marks (here, inside) =
    let known : unwrap_or (found es e.counted) false ≡ recorded_as recorded e.counted =
    ap (λ (o : Option Bool). unwrap_or o false) (marks e.counted ∙ ap (λ (b : Bool). cond b (Some (recorded_as recorded e.counted)) None) here) in
    ap (λ (b : Bool). cond (not b) (e ∷ unmarked es list) (unmarked es list)) known
    ∙ ap (λ (es : List PlainEntry). cond (not (recorded_as recorded e.counted)) (e ∷ es) es) (unmarked_unused all list recorded es marks inside)

pub unused_by : (accepting : Accepting) (list : List PlainEntry) (recorded : List PlainRecorded) (entries : List PlainEntry) → entries ≡ unmarked accepting.texts.entries (map plain_entry accepting.list.now)
    → HasSeen accepting list recorded → entries ≡ unused_of list recorded
unused_by accepting list recorded entries is seen =
    is ∙ ap (unmarked accepting.texts.entries) seen.list_is ∙ unmarked_unused list list recorded accepting.texts.entries seen.marks_are (each_in [] list)

-- one entry of the list more
pub filtered_more : (keeps : PlainEntry → Bool) (list : List Entry) (i : ℕ) (e : Entry) (known : Bool) → i < length list → e ≡ get_or list i e → known ≡ not (keeps (plain_entry e))
    → filter keeps (map plain_entry (take (i + 1) list)) ≡ filter keeps (map plain_entry (take i list)) ++ cond known [] (plain_entry e ∷ [])
filtered_more keeps list i e known less is test =
    ap (filter keeps) (ap (map plain_entry) (take_more list i e less) ∙ map-append plain_entry (take i list) (get_or list i e ∷ []))
    ∙ filter-append keeps (map plain_entry (take i list)) (plain_entry (get_or list i e) ∷ [])
    ∙ ap (λ (x : Entry). filter keeps (map plain_entry (take i list)) ++ filter keeps (plain_entry x ∷ [])) (sym is)
    ∙ ap (λ (es : List PlainEntry). filter keeps (map plain_entry (take i list)) ++ es) (by (keeps (plain_entry e)) ∙ ap (λ (b : Bool). cond b [] (plain_entry e ∷ [])) (sym test))
  where
    by : (b : Bool) → cond b (plain_entry e ∷ []) [] ≡ cond (not b) [] (plain_entry e ∷ [])
    by true = refl
    by false = refl

-- ---- the entries about some commands

-- one name more
pub names_more : (names : List (String Global)) (i : ℕ) (name : String Global) (k : Vec ℕ) (old new : List (Vec ℕ × Bool)) → i < length names → name ≡ get_or names i name → bytes_of k ≡ string_bytes name
    → new ≡ insert_entry same_vec old k true → ((x : List ℕ) → has old x ≡ list_any (bytes_eq x) (map (λ (n : String Global). string_bytes n) (take i names)))
    → (x : List ℕ) → has new x ≡ list_any (bytes_eq x) (map (λ (n : String Global). string_bytes n) (take (i + 1) names))
names_more names i name k old new less is text inserted before x =
    let bytes = λ (n : String Global). string_bytes n in
    let taken = ap (map bytes) (take_more names i name less ∙ ap (λ (y : String Global). take i names ++ y ∷ []) (sym is)) ∙ map-append bytes (take i names) (name ∷ []) in
    ap (λ (es : List (Vec ℕ × Bool)). has es x) inserted ∙ ap (λ (o : Option Bool). is_some o) (found_insert k true x old)
    ∙ by (bytes_eq x (bytes_of k)) (found old x) ∙ (λ j. before x j || (bytes_eq x (text j) || false))
    ∙ sym (list_any-append (bytes_eq x) (map bytes (take i names)) (string_bytes name ∷ [])) ∙ ap (list_any (bytes_eq x)) (sym taken)
  where
    by : (b : Bool) (o : Option Bool) → is_some (cond b (Some true) o) ≡ (is_some o || (b || false))
    by true (Some v) = refl
    by true None = refl
    by false (Some v) = refl
    by false None = refl

not_none : (n : ℕ) → (suc n == 0) ≡ false
not_none n = by (suc n == 0) refl
  where
    by : (b : Bool) → (suc n == 0) ≡ b → (suc n == 0) ≡ false
    by true e = absurd (omega (arith, eqb-true (suc n) 0 e))
    by false e = e

pub about_by : (names : List (String Global)) (all : Bool) (known : List (Vec ℕ × Bool)) → (all ≡ (length names == 0))
    → ((x : List ℕ) → has known x ≡ list_any (bytes_eq x) (map (λ (n : String Global). string_bytes n) names)) → (list : List PlainEntry)
    → filter (λ (e : PlainEntry). cond all true (has known (command_in e.counted))) list ≡ filter (is_about (map (λ (n : String Global). string_bytes n) names)) list
about_by names all known is are list = by names all is are list
  where
    by : (names : List (String Global)) (all : Bool) → (all ≡ (length names == 0))
        → ((x : List ℕ) → has known x ≡ list_any (bytes_eq x) (map (λ (n : String Global). string_bytes n) names)) → (list : List PlainEntry)
        → filter (λ (e : PlainEntry). cond all true (has known (command_in e.counted))) list ≡ filter (is_about (map (λ (n : String Global). string_bytes n) names)) list
    by names all is are [] = refl
    by [] all is are (e ∷ list) =
        ap (λ (b : Bool). cond (cond b true (has known (command_in e.counted))) (e ∷ filter (λ (e : PlainEntry). cond all true (has known (command_in e.counted))) list) (filter (λ (e : PlainEntry). cond all true (has known (command_in e.counted))) list)) is
        ∙ ap (λ (es : List PlainEntry). e ∷ es) (by [] all is are list)
    by (n ∷ names) all is are (e ∷ list) =
        ap (λ (b : Bool). cond (cond b true (has known (command_in e.counted))) (e ∷ filter (λ (e : PlainEntry). cond all true (has known (command_in e.counted))) list) (filter (λ (e : PlainEntry). cond all true (has known (command_in e.counted))) list)) (is ∙ not_none (length names))
        ∙ ap (λ (b : Bool). cond b (e ∷ filter (λ (e : PlainEntry). cond all true (has known (command_in e.counted))) list) (filter (λ (e : PlainEntry). cond all true (has known (command_in e.counted))) list)) (are (command_in e.counted))
        ∙ ap (λ (es : List PlainEntry). cond (list_any (bytes_eq (command_in e.counted)) (map (λ (n : String Global). string_bytes n) (n ∷ names))) (e ∷ es) es) (by (n ∷ names) all is are list)

-- ---- the order in which lines come

-- lines may follow those of the first list
pub seen_between : (accepting : Accepting) (list : List PlainEntry) (recorded others : List PlainRecorded) (t : PlainRecorded) → HasSeen accepting list ((recorded ++ others) ++ t ∷ [])
    → HasSeen accepting list ((recorded ++ t ∷ []) ++ others)
seen_between accepting list recorded others t seen =
    record { list_is = seen.list_is; marks_are = λ x. seen.marks_are x ∙ ap (λ (b : Bool). cond (list_any (is_text x) list) (Some b) None) (same x) }
  where
    moved : (a b c : Bool) → ((a || b) || c) ≡ ((a || c) || b)
    moved true b c = refl
    moved false true true = refl
    moved false true false = refl
    moved false false true = refl
    moved false false false = refl

    same : (x : List ℕ) → recorded_as ((recorded ++ others) ++ t ∷ []) x ≡ recorded_as ((recorded ++ t ∷ []) ++ others) x
    same x =
        let test = λ (s : PlainRecorded). accepts s.words (entry_with x) in
        list_any-append test (recorded ++ others) (t ∷ []) ∙ ap (λ (b : Bool). b || list_any test (t ∷ [])) (list_any-append test recorded others)
        ∙ moved (list_any test recorded) (list_any test others) (list_any test (t ∷ []))
        ∙ sym (list_any-append test (recorded ++ t ∷ []) others ∙ ap (λ (b : Bool). b || list_any test others) (list_any-append test recorded (t ∷ [])))

-- and all
pub seen_after : (accepting : Accepting) (list : List PlainEntry) (recorded others : List PlainRecorded) (t : PlainRecorded) → HasSeen accepting list ((recorded ++ others) ++ t ∷ [])
    → HasSeen accepting list (recorded ++ (others ++ t ∷ []))
seen_after accepting list recorded others t seen = subst (HasSeen accepting list) (append_assoc recorded others (t ∷ [])) seen
