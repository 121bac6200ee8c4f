-- The words of a command are taken without a fault, and what is found of them then.
use Rattle.std.proofs.Common.{◌≡◌, ◌∙◌, Bool, true, false, List, [], ◌∷◌, ◌++◌, Option, refl, sym, ap, ap₂, subst, not, append_assoc}
use Rattle.std.specs.Prelude.{◌&&◌, ⊤}
use Rattle.std.specs.List.{list_all, list_any}
use Rattle.std.specs.Option.{option_map_or}
use Rattle.clap.specs.Facts.{explicit_source}
use Rattle.clap.specs.Faults.{check_fault, default_fault, defaults_fault}
use Rattle.clap.specs.Kinds.{check_kinds, or_else}
use Rattle.clap.specs.Simple.{App, Shape, built}
use Rattle.clap.specs.Takes.{is_given}
use Rattle.clap.specs.Walk.{Row, Rule, Text, finished, has_row, nothing_held, settled, walk_from, with_default}
use Rattle.clap.specs.declared.parser.matches.ValueSource.TheVariants.{CommandLine}
use Rattle.clap.proofs.WalkLemmas.{both}
use Rattle.dia_cli.specs.Slots.{Slot, is_plain_slot, slot_words, words_of_slots}
use Rattle.dia_cli.proofs.Forms.Lookup.{Found, default_found, found, found_default, given_found, or_found, values_from}
use Rattle.dia_cli.proofs.Forms.Steps.{Holds, values_of}
use Rattle.dia_cli.proofs.Forms.Walked.{Ends, IsTaken, Names_at, Walks, rest_fault, taken, walk_at, walks_on}
use Rattle.dia_cli.proofs.Forms.Walks.{FitInputs, FitOptions, are_apart, following, takes_inputs, takes_options}

-- each default passes
abbrev pub HasFineDefaults : List Rule → Type 0
HasFineDefaults [] = ⊤
HasFineDefaults (a ∷ rest) = (default_fault [] a ≡ []) × HasFineDefaults rest

default_fine : (rows : List Row) (a : Rule) → default_fault [] a ≡ [] → default_fault rows a ≡ []
default_fine rows a fine = go (has_row a.id rows) refl
  where
    go : (t : Bool) → has_row a.id rows ≡ t → default_fault rows a ≡ []
    go true is = rw is refl
    go false is = rw is fine

defaults_fine : (rows : List Row) (c : List Rule) → HasFineDefaults c → defaults_fault rows c ≡ []
unfolding defaults_fault
defaults_fine rows [] fine = refl
defaults_fine rows (a ∷ rest) fine = ap₂ or_else (default_fine rows a fine.0) (defaults_fine (with_default rows a) rest fine.1)

abbrev pub lacks : List Text → Bool
lacks [] = true
lacks (v ∷ vs) = false

-- a required argument is given
given_is : (values : List Text) (default : Option Found) → lacks values ≡ false
    → option_map_or (λ (f : Found). explicit_source f.1) (or_found (values_from CommandLine values) default) false ≡ true
given_is [] default some = absurd cc
given_is (v ∷ vs) default some = refl

none_wanted : (slots : List Slot) (rows : List Row) (all c : List Rule) → ((id : Text) → found id rows ≡ or_found (values_from CommandLine (values_of id slots)) (default_found id all))
    → list_any (λ (a : Rule). a.required && lacks (values_of a.id slots)) c ≡ false → list_any (λ (a : Rule). a.required && not (is_given a.id rows)) c ≡ false
none_wanted slots rows all [] finds none = refl
none_wanted slots rows all (a ∷ rest) finds none = go a.required (lacks (values_of a.id slots)) refl refl (none_wanted slots rows all rest finds)
  where
    go : (required empty : Bool) → a.required ≡ required → lacks (values_of a.id slots) ≡ empty
        → (list_any (λ (b : Rule). b.required && lacks (values_of b.id slots)) rest ≡ false → list_any (λ (b : Rule). b.required && not (is_given b.id rows)) rest ≡ false)
        → list_any (λ (b : Rule). b.required && not (is_given b.id rows)) (a ∷ rest) ≡ false
    go false empty is has more = rw is (more (rw is at none))
    go true true is has more = let bad : true ≡ false = rw (is, has) at none in absurd cc
    go true false is has more =
        let is_there : is_given a.id rows ≡ true =
        given_found a.id rows ∙ ap (λ (o : Option Found). option_map_or (λ (f : Found). explicit_source f.1) o false) (finds a.id)
        ∙ given_is (values_of a.id slots) (default_found a.id all) has in
        rw (is, is_there) (more (rw (is, has) at none))

checks : (s : Shape) (rows : List Row) → s.arg_required_else_help ≡ false → s.subcommand_required ≡ false
    → list_any (λ (a : Rule). a.required && not (is_given a.id rows)) s.rules ≡ false → check_fault s rows false ≡ []
checks s rows no_help no_subcommand none = rw (no_help, no_subcommand) (go s.subcommand_negates_reqs none)
  where
    go : (negates : Bool) → list_any (λ (a : Rule). a.required && not (is_given a.id rows)) s.rules ≡ false
        → check_kinds false false (not (negates && false) && list_any (λ (a : Rule). a.required && not (is_given a.id rows)) s.rules) ≡ []
    go true none = rw none refl
    go false none = rw none refl

-- what a parse makes of a command's words
pub record IsRow (s : Shape) (options inputs : List Slot) : Type 0 where
  pub options_fit : FitOptions s options
  pub inputs_fit : FitInputs s 1 inputs
  pub apart : are_apart (options ++ inputs) [] ≡ true
  pub defaults : HasFineDefaults s.rules
  pub given : list_any (λ (a : Rule). a.required && lacks (values_of a.id (following (options ++ inputs) []))) s.rules ≡ false
  pub no_help : s.arg_required_else_help ≡ false
  pub no_subcommand : s.subcommand_required ≡ false

abbrev pub Finds : Shape → List Slot → List Row → Type 0
Finds s slots rows = (id : Text) → found id rows ≡ or_found (values_from CommandLine (values_of id (following slots []))) (default_found id s.rules)

apart_parts : (one two before : List Slot) → are_apart (one ++ two) before ≡ true → (are_apart one before ≡ true) × (are_apart two (following one before) ≡ true)
apart_parts [] two before apart = (refl, apart)
apart_parts (slot ∷ rest) two before apart =
    let parts = both _ (are_apart (rest ++ two) (slot ∷ before)) apart in
    let more = apart_parts rest two (slot ∷ before) parts.1 in
    (ap₂ (λ (a b : Bool). a && b) parts.0 more.0, more.1)

after_append : (one two before : List Slot) → following (one ++ two) before ≡ following two (following one before)
after_append [] two before = refl
after_append (slot ∷ rest) two before = after_append rest two (slot ∷ before)

words_append : (one two : List Slot) → words_of_slots (one ++ two) ≡ words_of_slots one ++ words_of_slots two
words_append [] two = refl
words_append (slot ∷ rest) two = ap (λ (ws : List Text). slot_words slot ++ ws) (words_append rest two) ∙ sym (append_assoc (slot_words slot) (words_of_slots rest) (words_of_slots two))

plain_parts : (one two : List Slot) → list_all is_plain_slot (one ++ two) ≡ true → (list_all is_plain_slot one ≡ true) × (list_all is_plain_slot two ≡ true)
plain_parts [] two plain = (refl, plain)
plain_parts (slot ∷ rest) two plain =
    let parts = both (is_plain_slot slot) (list_all is_plain_slot (rest ++ two)) plain in
    let more = plain_parts rest two parts.1 in
    (ap₂ (λ (a b : Bool). a && b) parts.0 more.0, more.1)

pub row_taken : (line : App) (program name : Text) (s : Shape) (options inputs : List Slot) → line.top.no_binary_name ≡ false → s.name ≡ name → Names_at (built line) name s
    → IsRow s options inputs → list_all is_plain_slot (options ++ inputs) ≡ true
    → (rows : List Row) × IsTaken line program name (words_of_slots (options ++ inputs)) rows × Finds s (options ++ inputs) rows
row_taken line program name s options inputs skips is named row plain =
    let plains = plain_parts options inputs plain in
    let aparts = apart_parts options inputs [] row.apart in
    let start : Holds s nothing_held [] = record { fine = refl; at = λ id. refl; waits = λ id none. refl } in
    let first = takes_options s nothing_held [] options start row.options_fit plains.0 aparts.0 in
    let second = takes_inputs s first.0 1 (following options []) inputs first.2 row.inputs_fit plains.1 aparts.1 in
    let to = second.0 in
    let rows = finished s.rules to.held in
    let finds : Finds s (options ++ inputs) rows =
    λ id. found_default id (settled s.rules to.held).rows s.rules
    ∙ ap (λ (o : Option Found). or_found o (default_found id s.rules)) (second.2.at id)
    ∙ ap (λ (slots : List Slot). or_found (values_from CommandLine (values_of id slots)) (default_found id s.rules)) (sym (after_append options inputs [])) in
    let wanted = none_wanted (following (options ++ inputs) []) rows s.rules s.rules finds row.given in
    let checked : check_fault s rows false ≡ [] = checks s rows row.no_help row.no_subcommand wanted in
    let rest : rest_fault s to.held false ≡ [] = ap₂ or_else second.2.fine (ap₂ or_else (defaults_fine (settled s.rules to.held).rows s.rules row.defaults) checked) in
    let walks = walks_on s (walk_from nothing_held) (walk_at first.0 1) to (words_of_slots options) (words_of_slots inputs) first.1 second.1 in
    let ends : Ends s (words_of_slots (options ++ inputs)) to = record {
      walks = subst (λ (ws : List Text). Walks s (walk_from nothing_held) ws to) (sym (words_append options inputs)) walks;
      rest = rest;
    } in
    (rows, taken line program name (words_of_slots (options ++ inputs)) s to skips is named ends, finds)
