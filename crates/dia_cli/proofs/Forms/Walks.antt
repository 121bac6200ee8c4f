-- How a parse takes the options and the inputs of a command, in their order.
use Rattle.std.proofs.Common.{◌≡◌, ◌∙◌, ℕ, Bool, true, false, List, [], ◌∷◌, Option, Some, None, refl, sym, ap, ap₂, subst, codes, length, nat_lt, not, ◌+◌, suc, arith, append-nil, leb-true, lt-ltb}
use Rattle.std.specs.Prelude.{if◌then◌else◌, ◌&&◌, unwrap_or, min, nat_le, ⊤}
use Rattle.std.specs.List.{list_all, list_any}
use Rattle.std.specs.Option.{option_map_or}
use Rattle.std.specs.Str.{bytes_eq}
use Rattle.std.proofs.lemmas.Slice.Eq.{bytes_eq-Decides}
use Rattle.clap.specs.Lexer.{long_of, usize_max}
use Rattle.clap.specs.Faults.{settle_fault, step_fault, use_fault, walk_fault, word_fault}
use Rattle.clap.specs.Kinds.{Kinds, or_else}
use Rattle.clap.specs.Simple.{Shape}
use Rattle.clap.specs.ValueTests.{accepts}
use Rattle.clap.specs.Walk.{Held, Rule, Step, Text, Walk, after_step, arg_by_id, arg_by_index, arg_by_long, idle, next, option, pushed, reacted, settled, value, walked, word_met}
use Rattle.clap.specs.declared.builder.value_parser.ValueParser.{ValueParser}
use Rattle.clap.specs.declared.builder.value_parser.ValueParser.TheVariants as vp
use Rattle.clap.proofs.WalkLemmas.{both}
use Rattle.dia_cli.specs.Slots.{Slot, choice, flag, is_plain, is_plain_slot, long_word, number, slot_id, slot_words, text, word, words, words_of_slots}
use Rattle.dia_cli.proofs.Forms.NamesWalked.{Collects, many_at, walks_names}
use Rattle.dia_cli.proofs.Forms.Steps.{Holds, Uses, fine_now, flag_filled, flag_uses, holds_absent, holds_flag, holds_words, is_awaited, slot_values, value_filled, value_uses, values_of, word_filled, word_uses, words_filled, words_use}
use Rattle.dia_cli.proofs.Forms.Walked.{IsNoOption, Walks, awaits_at, given, no_option, placed, walk_at, walks_on, walks_one, walks_option}

same_text : (id : Text) → bytes_eq id id ≡ true
same_text id = (bytes_eq-Decides id id).1 refl

-- the word is the name of an option, and no value is attached to it
pub record IsName (id : Text) : Type 0 where
  pub long : long_of (long_word id) ≡ Some (id, None)
  pub dashes : bytes_eq (long_word id) (45 ∷ 45 ∷ []) ≡ false

pub record IsFlag (s : Shape) (id : Text) : Type 0 where
  pub name : IsName id
  pub by_long : arg_by_long s.rules id ≡ Some (flag_filled id)

pub record IsOption (s : Shape) (id : Text) (defaults : List Text) (parser : Option ValueParser) : Type 0 where
  pub name : IsName id
  pub by_long : arg_by_long s.rules id ≡ Some (value_filled id defaults parser)
  pub by_id : arg_by_id s.rules id ≡ Some (value_filled id defaults parser)

pub record IsInput (s : Shape) (n : ℕ) (id : Text) (a : Rule) : Type 0 where
  pub by_index : arg_by_index s.rules n ≡ Some a
  pub by_id : arg_by_id s.rules id ≡ Some a
  pub next : min (n + 1) usize_max ≡ n + 1

-- a word that is given is plain, and passes
abbrev pub Passes : Option ValueParser → Option Text → Type 0
Passes parser given = option_map_or (λ w. is_plain w && accepts false (unwrap_or parser vp.String) w) given true ≡ true

-- the slot is an option of the command
abbrev pub FitsOption : Shape → Slot → Type 0
FitsOption s (flag id given) = IsFlag s id
FitsOption s (choice id given) = (defaults : List Text) × (parser : Option ValueParser) × IsOption s id defaults parser × Passes parser given
FitsOption s (text id given) = (defaults : List Text) × IsOption s id defaults None
FitsOption s (number id given) = (defaults : List Text) × IsOption s id defaults (Some (vp.Unsigned 0 4294967295))
FitsOption s (word id given) = ⊥
FitsOption s (words id given) = ⊥

abbrev pub FitOptions : Shape → List Slot → Type 0
FitOptions s [] = ⊤
FitOptions s (slot ∷ rest) = FitsOption s slot × FitOptions s rest

-- the slots are the inputs of the command, from the n-th on
abbrev pub FitInputs : Shape → ℕ → List Slot → Type 0
FitInputs s n [] = ⊤
FitInputs s n (word id given ∷ rest) = IsInput s n id (word_filled id n) × FitInputs s (n + 1) rest
FitInputs s n (words id given ∷ []) = (required : Bool) × IsInput s n id (words_filled id required n)
FitInputs s n slots = ⊥

-- no slot has the id of one before it
abbrev pub has_slot : Text → List Slot → Bool
has_slot id slots = list_any (λ (slot : Slot). bytes_eq (slot_id slot) id) slots

abbrev pub are_apart : List Slot → List Slot → Bool
are_apart [] before = true
are_apart (slot ∷ rest) before = not (has_slot (slot_id slot) before) && are_apart rest (slot ∷ before)

-- the slots, followed by those before, from the last to the first
abbrev pub following : List Slot → List Slot → List Slot
following [] before = before
following (slot ∷ rest) before = following rest (slot ∷ before)

no_values : (id : Text) (slots : List Slot) → not (has_slot id slots) ≡ true → values_of id slots ≡ []
no_values id [] e = refl
no_values id (slot ∷ rest) e = go (bytes_eq (slot_id slot) id) refl (no_values id rest)
  where
    go : (t : Bool) → bytes_eq (slot_id slot) id ≡ t → (not (has_slot id rest) ≡ true → values_of id rest ≡ []) → values_of id (slot ∷ rest) ≡ []
    go true is more = let bad : false ≡ true = rw is at e in absurd cc
    go false is more = rw is (more (rw is at e))

-- ---- one option

-- the option is taken, and what is held then
abbrev Takes : Shape → Held → List Slot → Slot → Type 0
Takes s h before slot = (k : Held) × Walks s (walk_at h 1) (slot_words slot) (walk_at k 1) × Holds s k (slot ∷ before)

takes_none : (s : Shape) (h : Held) (before : List Slot) (slot : Slot) → Holds s h before → values_of (slot_id slot) before ≡ [] → slot_values slot ≡ []
    → slot_words slot ≡ [] → Takes s h before slot
unfolding walk_fault
takes_none s h before slot holds fresh none silent =
    (h, subst (λ (ws : List Text). Walks s (walk_at h 1) ws (walk_at h 1)) (sym silent) (record { ends = refl; fine = refl }), holds_absent s h before slot holds fresh none)

takes_flag : (s : Shape) (h : Held) (before : List Slot) (id : Text) → Holds s h before → values_of id before ≡ [] → IsFlag s id → Takes s h before (flag id true)
unfolding walk_fault walked
takes_flag s h before id holds fresh is =
    let uses = flag_uses s.args_override_self id in
    let after = reacted s.rules (flag_filled id) [] h in
    let met : word_met s.rules [] false idle 1 (long_word id) h ≡ (after, next idle) = rw (is.name.dashes, is.name.long, is.by_long) refl in
    let fault : word_fault s [] false idle (long_word id) h ≡ or_else (settle_fault s.rules s.args_override_self h) (use_fault s.args_override_self (flag_filled id) [] (settled s.rules h).rows) =
    rw (is.name.dashes, is.name.long, is.by_long) refl in
    let fine = fault ∙ ap₂ or_else holds.fine (fine_now s h before (flag id true) (flag_filled id) [] (codes "true") [] holds fresh refl uses) in (
      after,
      record {
        ends = ap (λ (m : Held × Step). after_step s.rules (long_word id) (walk_at h 1) m.0 m.1) met;
        fine = ap (λ (f : Kinds). or_else f []) (ap₂ (λ (f : Kinds) (m : Held × Step). or_else f (step_fault s 1 m.0 m.1)) fine met);
      },
      holds_flag s h before (flag id true) (flag_filled id) [] (codes "true") [] holds fresh refl uses,
    )

-- the words of an option and its value
option_walks : (s : Shape) (h : Held) (id v : Text) (defaults : List Text) (parser : Option ValueParser) → settle_fault s.rules s.args_override_self h ≡ []
    → IsOption s id defaults parser → IsNoOption v → Walks s (walk_at h 1) (long_word id ∷ v ∷ []) (walk_at (given s.rules h id v) 1)
unfolding walk_fault walked
option_walks s h id v defaults parser settles is plain =
    let after = record (settled s.rules h) { pending = Some (id, []) } in
    let met : word_met s.rules [] false idle 1 (long_word id) h ≡ (after, next (option id)) = rw (is.name.dashes, is.name.long, is.by_long) refl in
    let fault : word_fault s [] false idle (long_word id) h ≡ settle_fault s.rules s.args_override_self h = rw (is.name.dashes, is.name.long, is.by_long) refl in
    let named : Walks s (walk_at h 1) (long_word id ∷ []) (awaits_at after id 1) = record {
      ends = ap (λ (m : Held × Step). after_step s.rules (long_word id) (walk_at h 1) m.0 m.1) met;
      fine = ap (λ (f : Kinds). or_else f []) (ap₂ (λ (f : Kinds) (m : Held × Step). or_else f (step_fault s 1 m.0 m.1)) (fault ∙ settles) met);
    } in
    walks_option s h (long_word id) id v plain named (rw (is.by_id, same_text id) refl) refl

takes_value : (s : Shape) (h : Held) (before : List Slot) (slot : Slot) (id v : Text) (defaults : List Text) (parser : Option ValueParser) → Holds s h before
    → values_of (slot_id slot) before ≡ [] → slot_id slot ≡ id → slot_values slot ≡ v ∷ [] → slot_words slot ≡ long_word id ∷ v ∷ [] → IsOption s id defaults parser
    → (is_plain v && accepts false (unwrap_or parser vp.String) v) ≡ true → Takes s h before slot
takes_value s h before slot id v defaults parser holds fresh named some said is passes =
    let parts = both (is_plain v) (accepts false (unwrap_or parser vp.String) v) passes in
    let walks = option_walks s h id v defaults parser holds.fine is (no_option v parts.0) in
    let uses = subst (λ (i : Text). Uses s.args_override_self (value_filled id defaults parser) i (v ∷ []) (v ∷ [])) (sym named)
    (value_uses s.args_override_self id defaults parser v parts.1) in
    let by_id = ap (arg_by_id s.rules) named ∙ is.by_id in (
      record (settled s.rules h) { pending = Some (slot_id slot, v ∷ []) },
      subst (λ (i : Text). Walks s (walk_at h 1) (slot_words slot) (walk_at (given s.rules h i v) 1)) (sym named)
          (subst (λ (ws : List Text). Walks s (walk_at h 1) ws (walk_at (given s.rules h id v) 1)) (sym said) walks),
      holds_words s h before slot (value_filled id defaults parser) (v ∷ []) v [] holds fresh some uses by_id,
    )

takes_option : (s : Shape) (h : Held) (before : List Slot) (slot : Slot) → Holds s h before → values_of (slot_id slot) before ≡ [] → FitsOption s slot
    → is_plain_slot slot ≡ true → Takes s h before slot
takes_option s h before (flag id false) holds fresh is plain = takes_none s h before (flag id false) holds fresh refl refl
takes_option s h before (flag id true) holds fresh is plain = takes_flag s h before id holds fresh is
takes_option s h before (choice id None) holds fresh is plain = takes_none s h before (choice id None) holds fresh refl refl
takes_option s h before (choice id (Some v)) holds fresh is plain = takes_value s h before (choice id (Some v)) id v is.0 is.1 holds fresh refl refl refl is.2 is.3
takes_option s h before (text id None) holds fresh is plain = takes_none s h before (text id None) holds fresh refl refl
takes_option s h before (text id (Some v)) holds fresh is plain =
    takes_value s h before (text id (Some v)) id v is.0 None holds fresh refl refl refl is.1 (ap (λ (t : Bool). t && true) plain)
takes_option s h before (number id None) holds fresh is plain = takes_none s h before (number id None) holds fresh refl refl
takes_option s h before (number id (Some v)) holds fresh is plain =
    takes_value s h before (number id (Some v)) id v is.0 (Some (vp.Unsigned 0 4294967295)) holds fresh refl refl refl is.1 plain
takes_option s h before (word id given) holds fresh is plain = absurd is
takes_option s h before (words id given) holds fresh is plain = absurd is

-- ---- all options

pub takes_options : (s : Shape) (h : Held) (before slots : List Slot) → Holds s h before → FitOptions s slots → list_all is_plain_slot slots ≡ true
    → are_apart slots before ≡ true → (k : Held) × Walks s (walk_at h 1) (words_of_slots slots) (walk_at k 1) × Holds s k (following slots before)
unfolding walk_fault
takes_options s h before [] holds fit plain apart = (h, record { ends = refl; fine = refl }, holds)
takes_options s h before (slot ∷ rest) holds fit plain apart =
    let plains = both (is_plain_slot slot) (list_all is_plain_slot rest) plain in
    let aparts = both (not (has_slot (slot_id slot) before)) (are_apart rest (slot ∷ before)) apart in
    let one = takes_option s h before slot holds (no_values (slot_id slot) before aparts.0) fit.0 plains.0 in
    let more = takes_options s one.0 (slot ∷ before) rest one.2 fit.1 plains.1 aparts.1 in
    (more.0, walks_on s (walk_at h 1) (walk_at one.0 1) (walk_at more.0 1) (slot_words slot) (words_of_slots rest) one.1 more.1, more.2)

-- ---- the inputs

not_several : (pending : Bool) (k : Kinds) → k ≡ [] → (if pending && false then [] else k) ≡ []
not_several true k e = e
not_several false k e = e

settles_first : (pending : Bool) (h k : Held) → (if pending && false then h else k) ≡ k
settles_first true h k = refl
settles_first false h k = refl

fewer : (vs : List Text) → nat_le (suc (length vs)) usize_max ≡ true → nat_lt (length vs) usize_max ≡ true
fewer vs few = let less = leb-true _ _ few in lt-ltb _ _ (omega arith)

-- where a walk of the inputs from a place on ends, and what is held then
abbrev TakesFrom : Shape → Held → ℕ → List Slot → List Slot → Type 0
TakesFrom s h n before slots = (to : Walk) × Walks s (walk_at h n) (words_of_slots slots) to × Holds s to.held (following slots before)

word_walks : (s : Shape) (h : Held) (n : ℕ) (id v : Text) → settle_fault s.rules s.args_override_self h ≡ [] → IsInput s n id (word_filled id n) → IsNoOption v
    → Walks s (walk_at h n) (v ∷ []) (walk_at (given s.rules h id v) (n + 1))
word_walks s h n id v settles is plain =
    let pending = is_awaited id h.pending in
    let fine : step_fault s n h value ≡ [] = rw is.by_index (not_several pending (settle_fault s.rules s.args_override_self h) settles) in
    let walks = walks_one s h n v plain fine in
    let goes : placed s.rules n v h ≡ walk_at (given s.rules h id v) (n + 1) =
    rw is.by_index (ap₂ (λ (k : Held) (m : ℕ). walk_at (pushed id v k) m) (settles_first pending h (settled s.rules h)) is.next) in
    record { ends = walks.ends ∙ goes; fine = walks.fine }

words_walk : (s : Shape) (h : Held) (n : ℕ) (id v : Text) (vs : List Text) (required : Bool) → settle_fault s.rules s.args_override_self h ≡ [] → is_awaited id h.pending ≡ false
    → IsInput s n id (words_filled id required n) → list_all is_plain (v ∷ vs) ≡ true → Walks s (walk_at h n) (v ∷ vs) (many_at (settled s.rules h) id (v ∷ vs) n)
words_walk s h n id v vs required settles new is plain =
    let parts = both (is_plain v) (list_all is_plain vs) plain in
    let fine : step_fault s n h value ≡ [] = rw (is.by_index, new) settles in
    let walks = walks_one s h n v (no_option v parts.0) fine in
    let goes : placed s.rules n v h ≡ many_at (settled s.rules h) id (v ∷ []) n = rw (is.by_index, new) refl in
    let collects : Collects s (settled s.rules h) id n = record { takes = λ ws w. rw (is.by_index, same_text id) refl; fine = λ ws. rw (is.by_index, same_text id) refl } in
    let one : Walks s (walk_at h n) (v ∷ []) (many_at (settled s.rules h) id (v ∷ []) n) = record { ends = walks.ends ∙ goes; fine = walks.fine } in
    walks_on s (walk_at h n) (many_at (settled s.rules h) id (v ∷ []) n) (many_at (settled s.rules h) id (v ∷ vs) n) (v ∷ []) vs one
    (walks_names s (settled s.rules h) id n (v ∷ []) vs collects parts.1)

takes_none_from : (s : Shape) (h : Held) (n : ℕ) (before : List Slot) (slots : List Slot) → words_of_slots slots ≡ [] → Holds s h (following slots before) → TakesFrom s h n before slots
unfolding walk_fault
takes_none_from s h n before slots silent holds =
    (walk_at h n, subst (λ (ws : List Text). Walks s (walk_at h n) ws (walk_at h n)) (sym silent) (record { ends = refl; fine = refl }), holds)

pub takes_inputs : (s : Shape) (h : Held) (n : ℕ) (before slots : List Slot) → Holds s h before → FitInputs s n slots → list_all is_plain_slot slots ≡ true
    → are_apart slots before ≡ true → TakesFrom s h n before slots
takes_inputs s h n before [] holds fit plain apart = takes_none_from s h n before [] refl holds
takes_inputs s h n before (word id v ∷ rest) holds fit plain apart =
    let plains = both (is_plain v) (list_all is_plain_slot rest) plain in
    let aparts = both (not (has_slot id before)) (are_apart rest (word id v ∷ before)) apart in
    let fresh = no_values id before aparts.0 in
    let one = word_walks s h n id v holds.fine fit.0 (no_option v plains.0) in
    let held = holds_words s h before (word id v) (word_filled id n) (v ∷ []) v [] holds fresh refl (word_uses s.args_override_self id n v) fit.0.by_id in
    let more = takes_inputs s (given s.rules h id v) (n + 1) (word id v ∷ before) rest held fit.1 plains.1 aparts.1 in
    (more.0, walks_on s (walk_at h n) (walk_at (given s.rules h id v) (n + 1)) more.0 (v ∷ []) (words_of_slots rest) one more.1, more.2)
takes_inputs s h n before (words id [] ∷ []) holds fit plain apart =
    let aparts = both (not (has_slot id before)) true apart in
    takes_none_from s h n before (words id [] ∷ []) refl (holds_absent s h before (words id []) holds (no_values id before aparts.0) refl)
takes_inputs s h n before (words id (v ∷ vs) ∷ []) holds fit plain apart =
    let aparts = both (not (has_slot id before)) true apart in
    let plains = both (is_plain_slot (words id (v ∷ vs))) true plain in
    let parts = both (list_all is_plain (v ∷ vs)) (nat_le (length (v ∷ vs)) usize_max) plains.0 in
    let fresh = no_values id before aparts.0 in
    let uses = words_use s.args_override_self id fit.0 n v vs (fewer vs parts.1) in
    let to = many_at (settled s.rules h) id (v ∷ vs) n in (
      to,
      subst (λ (ws : List Text). Walks s (walk_at h n) ws to) (sym (append-nil (v ∷ vs)))
          (words_walk s h n id v vs fit.0 holds.fine (holds.waits id fresh) fit.1 parts.0),
      holds_words s h before (words id (v ∷ vs)) (words_filled id fit.0 n) (v ∷ vs) v vs holds fresh refl uses fit.1.by_id,
    )
takes_inputs s h n before (words id given ∷ slot ∷ rest) holds fit plain apart = absurd fit
takes_inputs s h n before (flag id given ∷ rest) holds fit plain apart = absurd fit
takes_inputs s h n before (choice id given ∷ rest) holds fit plain apart = absurd fit
takes_inputs s h n before (text id given ∷ rest) holds fit plain apart = absurd fit
takes_inputs s h n before (number id given ∷ rest) holds fit plain apart = absurd fit
