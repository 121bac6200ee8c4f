-- How a parse takes one option or one input.
use Rattle.std.proofs.Common.{◌≡◌, ◌∙◌, ℕ, Bool, true, false, List, [], ◌∷◌, Option, Some, None, refl, sym, ap, ap₂, codes, length, nat_lt}
use Rattle.std.specs.Prelude.{is_some, if◌then◌else◌}
use Rattle.std.specs.Str.{bytes_eq}
use Rattle.std.specs.Option.{option_map_or}
use Rattle.std.specs.Prelude.{unwrap_or}
use Rattle.std.proofs.lemmas.List.{append-nil}
use Rattle.std.proofs.lemmas.Slice.Eq.{bytes_eq-Decides}
use Rattle.clap.specs.Lexer.{usize_max}
use Rattle.clap.specs.Faults.{settle_fault, use_fault}
use Rattle.clap.specs.Kinds.{Kinds, or_else}
use Rattle.clap.specs.Simple.{Shape, filled, new_rule, with_index}
use Rattle.clap.specs.ValueTests.{accepts}
use Rattle.clap.specs.Walk.{Held, Row, Rule, Text, arg_by_id, has_row, reacted, settled, used, with_values, without}
use Rattle.clap.specs.declared.builder.action.ArgAction.TheVariants.{SetTrue}
use Rattle.clap.specs.declared.builder.value_parser.Reading.{Reading}
use Rattle.clap.specs.declared.builder.value_parser.ValueParser.{ValueParser}
use Rattle.clap.specs.declared.builder.value_parser.ValueParser.TheVariants as vp
use Rattle.clap.specs.declared.parser.matches.ValueSource.TheVariants.{CommandLine}
use Rattle.dia_cli.specs.Slots.{Slot, choice, flag, number, slot_id, text, word, words}
use Rattle.dia_cli.proofs.Forms.Lookup.{Found, found, found_used, fresh_row, has_found, or_found, or_none, values_from}
use Rattle.dia_cli.proofs.Forms.NamesWalked.{some_pass, texts_pass}
use Rattle.dia_cli.proofs.Forms.Walked.{given}

-- ---- the rules of a command that is built

abbrev pub flag_filled : Text → Rule
flag_filled id = filled (record (new_rule id) { long = Some id; action = Some SetTrue })

abbrev pub value_filled : Text → List Text → Option ValueParser → Rule
value_filled id defaults parser = filled (record (new_rule id) { long = Some id; value_names = 1; defaults = defaults; parser = parser })

abbrev pub word_filled : Text → ℕ → Rule
word_filled id n = with_index n (filled (record (new_rule id) { required = true }))

abbrev pub words_filled : Text → Bool → ℕ → Rule
words_filled id required n =
    with_index n (filled (record (new_rule id) { required = required; range = Some (record { start_inclusive = 1; end_inclusive = usize_max }) }))

-- ---- what was given

abbrev pub option_values : Option Text → List Text
option_values None = []
option_values (Some w) = w ∷ []

abbrev pub flag_values : Bool → List Text
flag_values false = []
flag_values true = codes "true" ∷ []

abbrev pub slot_values : Slot → List Text
slot_values (flag id given) = flag_values given
slot_values (choice id given) = option_values given
slot_values (text id given) = option_values given
slot_values (number id given) = option_values given
slot_values (word id given) = given ∷ []
slot_values (words id given) = given

-- the values of the first slot with this id
abbrev pub values_of : Text → List Slot → List Text
values_of id [] = []
values_of id (slot ∷ rest) = if bytes_eq (slot_id slot) id then slot_values slot else values_of id rest

-- the words of this argument are being read
abbrev pub is_awaited : Text → Option (Text × List Text) → Bool
is_awaited id pending = option_map_or (λ (p : Text × List Text). bytes_eq p.0 id) pending false

-- what was read so far is what these slots are given, and no fault of it is left
pub record Holds (s : Shape) (h : Held) (slots : List Slot) : Type 0 where
  pub fine : settle_fault s.rules s.args_override_self h ≡ []
  pub at : (id : Text) → found id (settled s.rules h).rows ≡ values_from CommandLine (values_of id slots)
  pub waits : (id : Text) → values_of id slots ≡ [] → is_awaited id h.pending ≡ false

-- ---- one use of an argument that wasn't used before

pub record Uses (again : Bool) (a : Rule) (id : Text) (words values : List Text) : Type 0 where
  pub fine : (rows : List Row) → found id rows ≡ None → use_fault again a words rows ≡ []
  pub adds : (other : Text) (rows : List Row) → found id rows ≡ None
      → found other (used a words rows) ≡ or_found (found other rows) (if bytes_eq id other then values_from CommandLine values else None)

none_there : (id : Text) (rows : List Row) → found id rows ≡ None → has_row id rows ≡ false
none_there id rows none = has_found id rows ∙ ap (λ (o : Option Found). is_some o) none

none_without : (id : Text) (rows : List Row) → found id rows ≡ None → without id rows ≡ rows
none_without id rows none = fresh_row id (λ (r : Row). []) [] rows none ∙ append-nil rows

set_adds : (id other : Text) (how : Reading) (v : Text) (vs : List Text) (rows : List Row) → found id rows ≡ None
    → found other (with_values id how CommandLine (v ∷ vs) (without id rows)) ≡ or_found (found other rows) (if bytes_eq id other then values_from CommandLine (v ∷ vs) else None)
set_adds id other how v vs rows none =
    ap (λ (rs : List Row). found other (with_values id how CommandLine (v ∷ vs) rs)) (none_without id rows none) ∙ found_used id other how CommandLine v vs rows none

pub flag_uses : (again : Bool) (id : Text) → Uses again (flag_filled id) id [] (codes "true" ∷ [])
flag_uses again id = record {
  fine = λ rows none. rw (none_there id rows none) refl;
  adds = λ other rows none. set_adds id other _ (codes "true") [] rows none;
}

pub value_uses : (again : Bool) (id : Text) (defaults : List Text) (parser : Option ValueParser) (v : Text) → accepts false (unwrap_or parser vp.String) v ≡ true
    → Uses again (value_filled id defaults parser) id (v ∷ []) (v ∷ [])
value_uses again id defaults parser v passes = record {
  fine = λ rows none. rw (none_there id rows none, passes) refl;
  adds = λ other rows none. set_adds id other _ v [] rows none;
}

pub word_uses : (again : Bool) (id : Text) (n : ℕ) (v : Text) → Uses again (word_filled id n) id (v ∷ []) (v ∷ [])
word_uses again id n v = record {
  fine = λ rows none. rw (none_there id rows none) refl;
  adds = λ other rows none. set_adds id other _ v [] rows none;
}

pub words_use : (again : Bool) (id : Text) (required : Bool) (n : ℕ) (v : Text) (vs : List Text) → nat_lt (length vs) usize_max ≡ true
    → Uses again (words_filled id required n) id (v ∷ vs) (v ∷ vs)
words_use again id required n v vs few = record {
  fine = λ rows none. ap₂ (λ (f g : Kinds). or_else f g) (some_pass v vs few) (texts_pass (v ∷ vs));
  adds = λ other rows none. found_used id other _ CommandLine v vs rows none;
}

-- ---- what is held after a use

given_more : (t : Bool) (slot : Slot) (slots : List Slot) (other : Text) (before after : Option Found) → bytes_eq (slot_id slot) other ≡ t
    → values_of (slot_id slot) slots ≡ [] → before ≡ values_from CommandLine (values_of other slots)
    → after ≡ or_found before (if bytes_eq (slot_id slot) other then values_from CommandLine (slot_values slot) else None)
    → after ≡ values_from CommandLine (values_of other (slot ∷ slots))
given_more true slot slots other before after is fresh was adds =
    let same = (bytes_eq-Decides (slot_id slot) other).0 is in
    let none : before ≡ None = was ∙ ap (λ (id : Text). values_from CommandLine (values_of id slots)) (sym same) ∙ ap (values_from CommandLine) fresh in
    rw is (rw is at adds ∙ ap (λ (o : Option Found). or_found o (values_from CommandLine (slot_values slot))) none)
given_more false slot slots other before after is fresh was adds = rw is (rw is at adds ∙ or_none before ∙ was)

not_other : (t : Bool) (slot : Slot) (slots : List Slot) (id : Text) (v : Text) (vs : List Text) → bytes_eq (slot_id slot) id ≡ t → slot_values slot ≡ v ∷ vs
    → values_of id (slot ∷ slots) ≡ [] → bytes_eq (slot_id slot) id ≡ false
not_other false slot slots id v vs is some none = is
not_other true slot slots id v vs is some none = let bad : v ∷ vs ≡ [] = sym some ∙ rw is at none in absurd cc

module _ (s : Shape) (h : Held) (slots : List Slot) (slot : Slot) (a : Rule) (words : List Text) (v : Text) (vs : List Text) (holds : Holds s h slots)
    (fresh : values_of (slot_id slot) slots ≡ []) (some : slot_values slot ≡ v ∷ vs) (uses : Uses s.args_override_self a (slot_id slot) words (v ∷ vs)) where
  none : found (slot_id slot) (settled s.rules h).rows ≡ None
  none = holds.at (slot_id slot) ∙ ap (values_from CommandLine) fresh

  pub fine_now : use_fault s.args_override_self a words (settled s.rules h).rows ≡ []
  fine_now = uses.fine (settled s.rules h).rows none

  found_now : (id : Text) → found id (used a words (settled s.rules h).rows) ≡ values_from CommandLine (values_of id (slot ∷ slots))
  found_now id =
      given_more (bytes_eq (slot_id slot) id) slot slots id (found id (settled s.rules h).rows) _ refl fresh (holds.at id)
      (uses.adds id (settled s.rules h).rows none
      ∙ ap (λ (values : List Text). or_found (found id (settled s.rules h).rows) (if bytes_eq (slot_id slot) id then values_from CommandLine values else None)) (sym some))

  -- of a flag, which is used at once
  pub holds_flag : Holds s (reacted s.rules a words h) (slot ∷ slots)
  holds_flag = record { fine = refl; at = found_now; waits = λ id none. refl }

  -- of words that are used with the next option or input, or at the end
  pub holds_words : arg_by_id s.rules (slot_id slot) ≡ Some a → Holds s (record (settled s.rules h) { pending = Some (slot_id slot, words) }) (slot ∷ slots)
  holds_words by_id = record {
    fine = rw by_id fine_now;
    at = λ id. rw by_id (found_now id);
    waits = λ id none. not_other (bytes_eq (slot_id slot) id) slot slots id v vs refl some none;
  }

-- of what isn't given
holds_more : (t : Bool) (slot : Slot) (slots : List Slot) (id : Text) → bytes_eq (slot_id slot) id ≡ t → values_of (slot_id slot) slots ≡ [] → slot_values slot ≡ []
    → values_of id (slot ∷ slots) ≡ values_of id slots
holds_more false slot slots id is fresh none = rw is refl
holds_more true slot slots id is fresh none =
    let same = (bytes_eq-Decides (slot_id slot) id).0 is in
    rw is (none ∙ sym (ap (λ (i : Text). values_of i slots) (sym same) ∙ fresh))

pub holds_absent : (s : Shape) (h : Held) (slots : List Slot) (slot : Slot) → Holds s h slots → values_of (slot_id slot) slots ≡ [] → slot_values slot ≡ []
    → Holds s h (slot ∷ slots)
holds_absent s h slots slot holds fresh none =
    let same = λ (id : Text). holds_more (bytes_eq (slot_id slot) id) slot slots id refl fresh none in record {
      fine = holds.fine;
      at = λ id. holds.at id ∙ ap (values_from CommandLine) (sym (same id));
      waits = λ id is. holds.waits id (sym (same id) ∙ is);
    }
