-- What is answered of what breaks, and why it is not.
use Rattle.std.proofs.Common.{◌≡◌, ◌≢◌, ◌<◌, ◌≤◌, ℕ, zero, suc, Bool, true, false, List, [], ◌∷◌, ◌++◌, length, map, take, get_or, Bor, Option, Some, None, String, refl, sym, ap, subst, ◌∙◌, arith, inl, inr}
use Rattle.std.specs.Prelude.{IfSome, is_some, position, string_bytes}
use Rattle.std.specs.Global.{Global, Vec}
use Rattle.std.specs.Str.{bytes_eq}
use Rattle.std.specs.Str.Lines.{lines}
use Rattle.std.proofs.lemmas.Bool.{cases_lt}
use Rattle.std.proofs.lemmas.List.{map-append}
use Rattle.std.proofs.lemmas.List.Elements.{All-contains}
use Rattle.std.proofs.lemmas.List.Quantifiers.{position-Some}
use Rattle.std.proofs.lemmas.Option.{same_Some, slice_get-get_or, slice_get_within}
use Rattle.std.proofs.lemmas.Slice.Eq.{bytes_eq-Decides}
use Rattle.dia_book.specs.Dictionary.{Dictionary, PlainDefinition}
use Rattle.dia_book.proofs.Lists.{position-map}
use Rattle.dia_book.proofs.Members.{position-is_some}
use Rattle.dia_valid.proofs.Members.{IsIn, contains_in, in_at, in_contains}
use Rattle.dia_accepted.specs.declared.Recorded.{Recorded}
use Rattle.dia_accepted.proofs.Lists.{line_at, taken}
use Rattle.dia_compat.specs.Closed.{NamesCommand}
use Rattle.dia_compat.specs.Proposed.{IsFirstUnknown}
use Rattle.dia_io.specs.declared.Input.{Input}
use Rattle.dia_io.specs.declared.Exit.{Exit}
use Rattle.dia_io.specs.declared.Exit.TheVariants.{Yes, No, Bad}
use Rattle.dia_upgrades.specs.declared.Asked.{Asked}
use Rattle.dia_upgrades.specs.declared.Stale.TheVariants.{Ignored}
use Rattle.dia_accepted.specs.declared.Entry.{Entry}
use Rattle.dia_upgrades.specs.declared.BadList.{BadList}
use Rattle.dia_upgrades.specs.declared.Findings.{Findings}
use Rattle.dia_upgrades.specs.declared.Findings.TheVariants as found
use Rattle.dia_upgrades.specs.Asking.{AreCommands, names_of}
use Rattle.dia_upgrades.specs.InWords.{in_words}
use Rattle.dia_upgrades.specs.Lists.{IsNoListText}
use Rattle.dia_upgrades.specs.Outcome.{IsListed, nothing, nothing_else, lines as recorded_lines, bad_list, no_commands, no_command}
use Rattle.dia_c_calls.specs.declared.opening.Problem.{Problem}
use Rattle.dia_c_calls.specs.declared.opening.Refused.TheVariants as refused
use Rattle.dia_c_calls.specs.declared.wanted.Wanted.{Wanted}
use Rattle.dia_c_calls.specs.Comparisons.{holds_of}
use Rattle.dia_c_calls.specs.Upgrades.{IsAskedBy, IsLineOfUnknown, IsSafe, IsRecordedOf, IsUnlisted, line_number, list_problem}

abbrev text_of : String Global → List ℕ
text_of s = string_bytes s

-- one name more
pub one_name : (ts : List (List ℕ)) (k m : ℕ) (words : List ℕ) (old new : List (String Global)) (made : String Global) → m ≡ suc k → k < length ts → words ≡ get_or ts k words
    → string_bytes made ≡ words → new ≡ old ++ made ∷ [] → map text_of old ≡ take k ts → map text_of new ≡ take m ts
one_name ts k m words old new made next within item is pushed before =
    ap (map text_of) pushed ∙ map-append text_of old (made ∷ []) ∙ ap (λ (ns : List (List ℕ)). ns ++ string_bytes made ∷ []) before
    ∙ ap (λ (n : List ℕ). take k ts ++ n ∷ []) is ∙ sym (taken ts k m words next (line_at ts k words within item))

-- all that a sink in memory has, which had nothing
pub all_written : (P : List ℕ → Type 0) (old new text : List ℕ) → Some old ≡ Some [] → new ≡ old ++ text → P text → P new
all_written P old new text empty is p = subst P (sym (is ∙ ap (λ (o : List ℕ). o ++ text) (same_Some old [] empty))) p

-- ---- the answer

yes_of : (exit : Exit) → holds_of exit ≡ 1 → exit ≡ Yes
yes_of Yes e = refl
yes_of No e = absurd (let z : 0 ≡ 1 = e in omega (arith, z))
yes_of Bad e = absurd (let z : 0 ≡ 1 = e in omega (arith, z))

module _ (asked : Asked) (input : Input) (a b : Dictionary) (text : List ℕ) (exit : Exit) (is : Findings) where
  says_safe : IsListed in_words asked input a b text exit is → exit ≡ Yes → IsSafe asked input a b
  says_safe (nothing list apart stale can breaks differs none is_text is_exit) is_yes = inl (breaks, differs)
  says_safe (nothing_else list recorded apart stale can left some breaks none is_text is_exit) is_yes = inr (list, can.list_is, breaks)
  says_safe (recorded_lines list recorded apart stale can left is_text is_exit) is_yes = absurd (let e : No ≡ Yes = sym is_exit ∙ is_yes in cc)
  says_safe (bad_list bad none refuses what) is_yes = absurd (let e : Bad ≡ Yes = sym refuses.1 ∙ is_yes in cc)
  says_safe (no_commands list is_list none refuses what) is_yes = absurd (let e : Bad ≡ Yes = sym refuses.1 ∙ is_yes in cc)
  says_safe (no_command list name is_list some first refuses what) is_yes = absurd (let e : Bad ≡ Yes = sym refuses.1 ∙ is_yes in cc)

  module _ (unused old : Vec Entry) (n accepted : ℕ) (causes meanings : Vec Recorded) (has : is ≡ found.Listed unused old n accepted causes meanings) where
    answers : IsListed in_words asked input a b text exit is → exit ≢ Bad
    answers (nothing list apart stale can breaks differs none is_text is_exit) = λ bad. (let e : Yes ≡ Bad = sym is_exit ∙ bad in cc)
    answers (nothing_else list recorded apart stale can left some breaks none is_text is_exit) = λ bad. (let e : Yes ≡ Bad = sym is_exit ∙ bad in cc)
    answers (recorded_lines list recorded apart stale can left is_text is_exit) = λ bad. (let e : No ≡ Bad = sym is_exit ∙ bad in cc)
    answers (bad_list bad none refuses what) = absurd (let e : found.NoList bad ≡ found.Listed unused old n accepted causes meanings = sym what ∙ has in cc)
    answers (no_commands list is_list none refuses what) = absurd (let e : found.NoCommands ≡ found.Listed unused old n accepted causes meanings = sym what ∙ has in cc)
    answers (no_command list name is_list some first refuses what) = absurd (let e : found.NoCommand ≡ found.Listed unused old n accepted causes meanings = sym what ∙ has in cc)

    pub recorded : (answer : Option (List ℕ)) (safe : ℕ) → answer ≡ Some text → safe ≡ holds_of exit → IsListed in_words asked input a b text exit is
        → IfSome answer (λ t. IsRecordedOf asked input a b t safe)
    recorded answer safe in_text ends listed = subst (λ (o : Option (List ℕ)). IfSome o (λ t. IsRecordedOf asked input a b t safe)) (sym in_text) (record {
      exit = exit;
      listed = (is, listed);
      answered = answers listed;
      safe_is = ends;
      says = λ one. says_safe listed (yes_of exit (sym ends ∙ one));
    })

  -- ---- the refusals

  same_bad : (bad other : BadList) → found.NoList bad ≡ found.NoList other → bad ≡ other
  same_bad bad other e = cc

  pub no_list : (bad : BadList) (p : Problem) → is ≡ found.NoList bad → p ≡ list_problem bad → IsListed in_words asked input a b text exit is → IsUnlisted a input (names_of asked) p
  no_list bad p has recorded (nothing list apart stale can breaks differs none is_text is_exit) = absurd (let t = can.records in let e : found.NoList bad ≡ found.Listed t.unused t.stale_ones t.lines t.accepted t.causes t.meanings = sym has ∙ t.is_listed in cc)
  no_list bad p has recorded (nothing_else list recorded' apart stale can left some breaks none is_text is_exit) = absurd (let t = can.records in let e : found.NoList bad ≡ found.Listed t.unused t.stale_ones t.lines t.accepted t.causes t.meanings = sym has ∙ t.is_listed in cc)
  no_list bad p has recorded (recorded_lines list recorded' apart stale can left is_text is_exit) = absurd (let t = can.records in let e : found.NoList bad ≡ found.Listed t.unused t.stale_ones t.lines t.accepted t.causes t.meanings = sym has ∙ t.is_listed in cc)
  no_list bad p has recorded (bad_list other none refuses what) = IsUnlisted.bad_list bad (subst (IsNoListText input) (sym (same_bad bad other (sym has ∙ what))) none) recorded
  no_list bad p has recorded (no_commands list is_list none refuses what) = absurd (let e : found.NoList bad ≡ found.NoCommands = sym has ∙ what in cc)
  no_list bad p has recorded (no_command list name is_list some first refuses what) = absurd (let e : found.NoList bad ≡ found.NoCommand = sym has ∙ what in cc)

  pub unnamed : is ≡ found.NoCommand → IsListed in_words asked input a b text exit is → (name : List ℕ) × IsFirstUnknown a (names_of asked) name
  unnamed has (nothing list apart stale can breaks differs none is_text is_exit) = absurd (let t = can.records in let e : found.NoCommand ≡ found.Listed t.unused t.stale_ones t.lines t.accepted t.causes t.meanings = sym has ∙ t.is_listed in cc)
  unnamed has (nothing_else list recorded' apart stale can left some breaks none is_text is_exit) = absurd (let t = can.records in let e : found.NoCommand ≡ found.Listed t.unused t.stale_ones t.lines t.accepted t.causes t.meanings = sym has ∙ t.is_listed in cc)
  unnamed has (recorded_lines list recorded' apart stale can left is_text is_exit) = absurd (let t = can.records in let e : found.NoCommand ≡ found.Listed t.unused t.stale_ones t.lines t.accepted t.causes t.meanings = sym has ∙ t.is_listed in cc)
  unnamed has (bad_list bad none refuses what) = absurd (let e : found.NoCommand ≡ found.NoList bad = sym has ∙ what in cc)
  unnamed has (no_commands list is_list none refuses what) = absurd (let e : found.NoCommand ≡ found.NoCommands = sym has ∙ what in cc)
  unnamed has (no_command list name is_list some first refuses what) = (name, first)

-- ---- the first name that no command has

taken_in : (x : List ℕ) (p q : ℕ) (xs : List (List ℕ)) → p ≤ q → IsIn x (take p xs) → IsIn x (take q xs)
taken_in x zero q [] le h = absurd h
taken_in x zero q (y ∷ xs) le h = absurd h
taken_in x (suc p) zero xs le h = absurd (omega (arith, le))
taken_in x (suc p) (suc q) [] le h = h
taken_in x (suc p) (suc q) (y ∷ xs) le (inl e) = inl e
taken_in x (suc p) (suc q) (y ∷ xs) le (inr h) = inr (taken_in x p q xs (omega (arith, le)) h)

module _ (d : Dictionary) (names : List (List ℕ)) (name : List ℕ) (first : IsFirstUnknown d names name) where
  pub never_known : AreCommands d names → ⊥
  never_known known =
      let (command, is) = All-contains (λ n. (c : PlainDefinition) × NamesCommand d n c) names name known (contains_in names name (in_at names first.place name first.is_name)) in
      first.unknown command is

  abbrev pub test : List ℕ → Bool
  test n = bytes_eq n name

  same : (x : List ℕ) → x ≡ name → test x ≡ true
  same x e = (bytes_eq-Decides x name).1 e

  occurs : is_some (position test names) ≡ true
  occurs = position-is_some test names first.place name first.is_name (same name refl)

  module _ (p : ℕ) (at : position test names ≡ Some p) where
    within : p < length names
    within = (position-Some test names p name at).0

    not_after : first.place < p → ⊥
    not_after less =
        let inside = slice_get_within names first.place name first.is_name in
        let item = same_Some (get_or names first.place name) name (sym (slice_get-get_or names first.place name inside) ∙ first.is_name) in
        let no = (position-Some test names p name at).2 first.place less in
        let e : true ≡ false = sym (same (get_or names first.place name) item) ∙ no in cc

    is_first : IsFirstUnknown d names name
    is_first = record {
      place = p;
      is_name = slice_get-get_or names p name within ∙ ap (λ (n : List ℕ). Some n) ((bytes_eq-Decides (get_or names p name) name).0 (position-Some test names p name at).1);
      unknown = first.unknown;
      before = λ other inside. first.before other (contains_in (take first.place names) other (taken_in other p first.place names le (in_contains (take p names) other inside)));
    }
      where
        le : p ≤ first.place
        le = elim (cases_lt first.place p) [
          | inl less ↦ absurd (not_after less)
          | inr within_first ↦ within_first
        ]

    line_at_place : (line : ℕ) → line ≡ line_number p → IsLineOfUnknown d names line
    unfolding is_first
    line_at_place line is = (name, is_first, is)

module _ (d : Dictionary) (xs : List (String Global)) (name : List ℕ) (first : IsFirstUnknown d (map text_of xs) name) where
  in_names : (o : Option ℕ) → o ≡ position (λ other. bytes_eq (string_bytes other) name) xs → position (λ n. bytes_eq n name) (map text_of xs) ≡ o
  in_names o is = position-map text_of (λ n. bytes_eq n name) xs ∙ sym is

  pub never_absent : None ≡ position (λ other. bytes_eq (string_bytes other) name) xs → ⊥
  never_absent none = let e : true ≡ false = sym (occurs d (map text_of xs) name first) ∙ ap (λ (o : Option ℕ). is_some o) (in_names None none) in cc

  pub line_is : (p line : ℕ) → Some p ≡ position (λ other. bytes_eq (string_bytes other) name) xs → line ≡ line_number p → IsLineOfUnknown d (map text_of xs) line
  line_is p line at is = line_at_place d (map text_of xs) name first p (in_names (Some p) at) line is

-- ---- what is asked

pub is_asked : (w : Wanted) (commands words : List ℕ) (given : Bor (List (String Global))) (names : List (String Global)) → given.now ≡ names → map text_of names ≡ lines words → words ≡ commands
    → IsAskedBy w commands (record { sends = w.sends; unknown = w.unknown; messages = w.messages; once = w.once; meaning = w.meaning; stale = Ignored; names = given })
is_asked w commands words given names has is same =
    record { sends = refl; unknown = refl; messages = refl; once = refl; meaning = refl; stale = refl; names = ap (map text_of) has ∙ is ∙ ap lines same }

pub same_problem : (x p : Problem) → refused.Bad x ≡ refused.Bad p → p ≡ x
same_problem x p e = cc

pub if_some : {X : Type 0} {P Q : X → Type 0} (o : Option X) → ((x : X) → P x → Q x) → IfSome o P → IfSome o Q
if_some None f p = tt
if_some (Some x) f p = f x p
