-- What was found of one argument is one value: the same values, and that they are there.
use Rattle.std.proofs.Common.{◌≡◌, ◌≢◌, ◌∙◌, Bool, true, false, List, [], ◌∷◌, Option, Some, None, refl, sym, ap, subst, codes, ◌&&◌, is_some}
use Rattle.std.specs.Borrow.{Bor}
use Rattle.std.specs.Prelude.{unwrap_or}
use Rattle.std.specs.List.{list_all}
use Rattle.std.proofs.lemmas.Slice.Eq.{bytes_eq-Decides}
use Rattle.std.specs.Str.{bytes_eq}
use Rattle.clap.specs.ValueTests.{is_unsigned_in}
use Rattle.clap.specs.Walk.{Row, Text, first_of}
use Rattle.clap.proofs.WalkLemmas.{both}
use Rattle.dia_terms.specs.declared.Levels.{Levels}
use Rattle.dia_terms.specs.declared.Sends.{Sends}
use Rattle.dia_terms.specs.declared.Sends.TheVariants.{Any, Known, Filled, Listed}
use Rattle.dia_terms.specs.declared.Unknown.{Unknown}
use Rattle.dia_terms.specs.declared.Unknown.TheVariants.{Kept, Refused}
use Rattle.dia_cli.specs.Slots.{Slot, is_plain, is_plain_slot, number}
use Rattle.dia_cli.specs.InputWords.{AreFound, AreNamed, IsFound, IsNamed, one_text, pair_texts}
use Rattle.dia_cli.specs.Words.{IsLimitOf, flag_word, has_pair, is_flag, is_given, is_limit, is_policy, is_sender, policy_word, sends_word}
use Rattle.dia_cli.specs.declared.origin.Origin.{Origin}
use Rattle.dia_cli.specs.declared.origin.Origins.{Origins}
use Rattle.dia_cli.proofs.Forms.Says.{some_names}

pub unlike : {X : Type 0} (a b : Text) → bytes_eq a b ≡ false → a ≡ b → X
unlike a b differ same = let alike : bytes_eq a b ≡ true = (bytes_eq-Decides a b).1 same in absurd cc

some_is : {X : Type 0} (x y : X) → Some x ≡ Some y → x ≡ y
some_is {X} x y is = ap (λ (o : Option X). unwrap_or o x) is

pub same_value : {X : Type 0} (word : Option X) (x y : X) → word ≡ Some x → word ≡ Some y → x ≡ y
same_value word x y one two = some_is x y (sym one ∙ two)

pub same_flag : (word : Option Text) (x y : Bool) → word ≡ Some (flag_word x) → word ≡ Some (flag_word y) → x ≡ y
same_flag word false false one two = refl
same_flag word false true one two = absurd cc
same_flag word true false one two = absurd cc
same_flag word true true one two = refl

pub same_policy : (word : Option Text) (x y : Unknown) → word ≡ Some (policy_word x) → word ≡ Some (policy_word y) → x ≡ y
same_policy word Kept Kept one two = refl
same_policy word Kept Refused one two = absurd cc
same_policy word Refused Kept one two = absurd cc
same_policy word Refused Refused one two = refl

pub same_sender : (word : Option Text) (x y : Sends) → word ≡ Some (sends_word x) → word ≡ Some (sends_word y) → x ≡ y
same_sender word Any Any one two = refl
same_sender word Any Known one two = absurd cc
same_sender word Any Filled one two = absurd cc
same_sender word Any Listed one two = absurd cc
same_sender word Known Any one two = absurd cc
same_sender word Known Known one two = refl
same_sender word Known Filled one two = absurd cc
same_sender word Known Listed one two = absurd cc
same_sender word Filled Any one two = absurd cc
same_sender word Filled Known one two = absurd cc
same_sender word Filled Filled one two = refl
same_sender word Filled Listed one two = unlike (sends_word Filled) (sends_word Listed) refl (same_value word (sends_word Filled) (sends_word Listed) one two)
same_sender word Listed Any one two = absurd cc
same_sender word Listed Known one two = absurd cc
same_sender word Listed Filled one two = unlike (sends_word Listed) (sends_word Filled) refl (same_value word (sends_word Listed) (sends_word Filled) one two)
same_sender word Listed Listed one two = refl

pub same_limit : (word levels : Option Text) (limit : Levels) → word ≡ levels → IsLimitOf word limit → IsLimitOf levels limit
same_limit word levels limit is of = subst (λ (w : Option Text). IsLimitOf w limit) is of

pub same_names : (found : Option (List Text)) (names wanted : List Text) → found ≡ some_names wanted → unwrap_or found [] ≡ names → names ≡ wanted
same_names found names [] one two = sym two ∙ ap (λ (o : Option (List Text)). unwrap_or o []) one
same_names found names (w ∷ ws) one two = sym two ∙ ap (λ (o : Option (List Text)). unwrap_or o []) one

-- ---- the arguments are there

pub also : {a b : Bool} → a ≡ true → b ≡ true → (a && b) ≡ true
also {a} {b} p q = ap (λ (t : Bool). t && b) p ∙ q

flag_passes : (given : Bool) → is_flag (Some (flag_word given)) ≡ true
flag_passes false = refl
flag_passes true = refl

policy_passes : (policy : Unknown) → is_policy (Some (policy_word policy)) ≡ true
policy_passes Kept = refl
policy_passes Refused = refl

sender_passes : (sends : Sends) → is_sender (Some (sends_word sends)) ≡ true
sender_passes Any = refl
sender_passes Known = refl
sender_passes Filled = refl
sender_passes Listed = refl

pub has_flag : (word : Option Text) (given : Bool) → word ≡ Some (flag_word given) → is_flag word ≡ true
has_flag word given is = ap is_flag is ∙ flag_passes given

pub has_policy : (word : Option Text) (policy : Unknown) → word ≡ Some (policy_word policy) → is_policy word ≡ true
has_policy word policy is = ap is_policy is ∙ policy_passes policy

pub has_sender : (word : Option Text) (sends : Sends) → word ≡ Some (sends_word sends) → is_sender word ≡ true
has_sender word sends is = ap is_sender is ∙ sender_passes sends

pub has_some : {X : Type 0} (word : Option X) (value : X) → word ≡ Some value → is_some word ≡ true
has_some {X} word value is = ap (λ (o : Option X). is_some o) is

pub has_limit : (word levels : Option Text) → word ≡ levels → is_limit levels ≡ true → is_limit word ≡ true
has_limit word levels is passes = ap is_limit is ∙ passes

-- the slots after the first are plain
pub later_plain : (slot : Slot) (more : List Slot) → list_all is_plain_slot (slot ∷ more) ≡ true → list_all is_plain_slot more ≡ true
later_plain slot more plain = (both (is_plain_slot slot) (list_all is_plain_slot more) plain).1

-- the number of `--levels`, which is the last option
pub number_passes : (given : Option Text) (more : List Slot) → list_all is_plain_slot (number (codes "levels") given ∷ more) ≡ true → is_limit given ≡ true
number_passes None more plain = refl
number_passes (Some n) more plain =
    let parts = both (is_plain n && is_unsigned_in 0 4294967295 n) (list_all is_plain_slot more) plain in (both (is_plain n) (is_unsigned_in 0 4294967295 n) parts.0).1

pub pair_passes : (first second : Text) (rows : List Row) → first_of (codes "A") rows ≡ Some first → first_of (codes "B") rows ≡ Some second → has_pair rows ≡ true
pair_passes first second rows one two = also (has_some _ first one) (has_some _ second two)

-- a flag as it is given
pub same_given : (word : Option Text) (x y : Bool) → word ≡ Some (flag_word x) → y ≡ is_given word → y ≡ x
same_given word false y one two = two ∙ ap is_given one
same_given word true y one two = two ∙ ap is_given one

pub other_flag : {X : Type 0} (word : Option Text) (x y : Bool) → word ≡ Some (flag_word x) → word ≡ Some (flag_word y) → x ≢ y → X
other_flag word x y one two differ = absurd (differ (same_flag word x y one two))

pub other_given : {X : Type 0} (word : Option Text) (x y : Bool) → word ≡ Some (flag_word x) → y ≡ is_given word → y ≢ x → X
other_given word x y one two differ = absurd (differ (same_given word x y one two))

pub not_false : true ≢ false
not_false e = absurd cc

pub not_true : false ≢ true
not_true e = absurd cc

-- the word of an argument
named : (origin_of : Bor Text → Origin) (id text : Text) (origin : Origin) (rows : List Row) → first_of id rows ≡ Some text → IsFound origin_of (Some id) origin rows
    → IsNamed origin_of (Some text) origin
named origin_of id text origin rows says (word, is, from) = (word, same_value _ _ _ is says, from)

-- ---- where the inputs come from

module _ (origins : Origins) (rows : List Row) where
  -- one dictionary, and a message, or messages
  pub one_named : (id dictionary : Text) → first_of id rows ≡ Some dictionary → AreFound (one_text id) origins rows → AreNamed (one_text dictionary) origins
  one_named id dictionary says found = (named _ id dictionary origins.first rows says found.0, found.1, found.2, found.3, found.4)

  pub message_named : (id dictionary input message : Text) → first_of id rows ≡ Some dictionary → first_of input rows ≡ Some message
      → AreFound (record (one_text id) { message = Some input }) origins rows → AreNamed (record (one_text dictionary) { message = Some message }) origins
  message_named id dictionary input message says text found =
      (named _ id dictionary origins.first rows says found.0, found.1, found.2, named _ input message origins.message rows text found.3, found.4)

  pub one_table_named : (id dictionary input table : Text) → first_of id rows ≡ Some dictionary → first_of input rows ≡ Some table
      → AreFound (record (one_text id) { table = Some input }) origins rows → AreNamed (record (one_text dictionary) { table = Some table }) origins
  one_table_named id dictionary input table says text found =
      (named _ id dictionary origins.first rows says found.0, found.1, named _ input table origins.table rows text found.2, found.3, found.4)

  pub listing_named : (dictionary input message values : Text) → first_of (codes "dict") rows ≡ Some dictionary → first_of input rows ≡ Some message → first_of (codes "values") rows ≡ Some values
      → AreFound (record (one_text (codes "dict")) { table = Some (codes "values"); message = Some input }) origins rows
      → AreNamed (record (one_text dictionary) { table = Some values; message = Some message }) origins
  listing_named dictionary input message values says text file found = (
    named _ (codes "dict") dictionary origins.first rows says found.0,
    found.1,
    named _ (codes "values") values origins.table rows file found.2,
    named _ input message origins.message rows text found.3,
    found.4,
  )

  pub listings_named : (dictionary messages values : Text) → first_of (codes "dict") rows ≡ Some dictionary → first_of (codes "MESSAGE") rows ≡ Some messages → first_of (codes "values") rows ≡ Some values
      → AreFound (record (one_text (codes "dict")) { table = Some (codes "values"); messages = Some (codes "MESSAGE") }) origins rows
      → AreNamed (record (one_text dictionary) { table = Some values; messages = Some messages }) origins
  listings_named dictionary messages values says text file found = (
    named _ (codes "dict") dictionary origins.first rows says found.0,
    found.1,
    named _ (codes "values") values origins.table rows file found.2,
    found.3,
    named _ (codes "MESSAGE") messages origins.messages rows text found.4,
  )

  pub messages_named : (id dictionary input messages : Text) → first_of id rows ≡ Some dictionary → first_of input rows ≡ Some messages
      → AreFound (record (one_text id) { messages = Some input }) origins rows → AreNamed (record (one_text dictionary) { messages = Some messages }) origins
  messages_named id dictionary input messages says text found =
      (named _ id dictionary origins.first rows says found.0, found.1, found.2, found.3, named _ input messages origins.messages rows text found.4)

  -- two dictionaries, and more
  module _ (first second : Text) (one : first_of (codes "A") rows ≡ Some first) (two : first_of (codes "B") rows ≡ Some second) where
    pub pair_named : AreFound (pair_texts (codes "A") (codes "B")) origins rows → AreNamed (pair_texts first second) origins
    pair_named found =
        (named _ (codes "A") first origins.first rows one found.0, named _ (codes "B") second origins.second rows two found.1, found.2, found.3, found.4)

    pub table_named : (id table : Text) → first_of id rows ≡ Some table
        → AreFound (record (pair_texts (codes "A") (codes "B")) { table = Some id }) origins rows → AreNamed (record (pair_texts first second) { table = Some table }) origins
    table_named id table says found = (
      named _ (codes "A") first origins.first rows one found.0,
      named _ (codes "B") second origins.second rows two found.1,
      named _ id table origins.table rows says found.2,
      found.3,
      found.4,
    )

    pub pair_message_named : (message : Text) → first_of (codes "MESSAGE") rows ≡ Some message
        → AreFound (record (pair_texts (codes "A") (codes "B")) { message = Some (codes "MESSAGE") }) origins rows
        → AreNamed (record (pair_texts first second) { message = Some message }) origins
    pair_message_named message says found = (
      named _ (codes "A") first origins.first rows one found.0,
      named _ (codes "B") second origins.second rows two found.1,
      found.2,
      named _ (codes "MESSAGE") message origins.message rows says found.3,
      found.4,
    )

    pub pair_messages_named : (messages : Text) → first_of (codes "MESSAGE") rows ≡ Some messages
        → AreFound (record (pair_texts (codes "A") (codes "B")) { messages = Some (codes "MESSAGE") }) origins rows
        → AreNamed (record (pair_texts first second) { messages = Some messages }) origins
    pair_messages_named messages says found = (
      named _ (codes "A") first origins.first rows one found.0,
      named _ (codes "B") second origins.second rows two found.1,
      found.2,
      found.3,
      named _ (codes "MESSAGE") messages origins.messages rows says found.4,
    )
