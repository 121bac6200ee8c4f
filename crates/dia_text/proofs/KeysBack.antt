-- The first word of an AVP's line, read back: a name of the dictionary, or numbers.
use Rattle.std.proofs.Common.{◌≡◌, ℕ, ◌+◌, ◌^◌, ◌<◌, ◌==◌, ◌&&◌, nat_eq, nat_le, Bool, true, false, not, if◌then◌else◌, List, [], ◌∷◌, ◌++◌, length, take, drop, Option, Some, None, is_none, unwrap_or, Ok, IfSome, IsTrue, All, codes, refl, sym, ap, subst, ◌∙◌, append_assoc, append-nil, arith}
use Rattle.std.specs.Prelude.{slice_get, find}
use Rattle.std.specs.List.{list_all, list_any, prefix_len}
use Rattle.std.specs.Option.{option_eq, option_or}
use Rattle.std.specs.Char.{is_ascii_digit, is_ascii_alphanumeric, is_ascii_alphabetic}
use Rattle.std.specs.Fmt.{decimal}
use Rattle.std.proofs.lemmas.Bool.{and_parts, and_from, and_left, and_right, lt-ltb, ne_eqb, true≢false}
use Rattle.std.proofs.lemmas.Bool.Decides.{nat_tests}
use Rattle.std.proofs.lemmas.Fmt.{digits_decimal}
use Rattle.std.proofs.lemmas.List.{length-append, take_at, drop_at}
use Rattle.std.proofs.lemmas.List.Folds.{list_all-append}
use Rattle.std.proofs.lemmas.Option.{same_Some, slice_get_within, slice_get-get_or}
use Rattle.dia_terms.specs.Names.{same_bytes, is_name, is_name_run, is_run_byte}
use Rattle.dia_terms.specs.Limits.{max_name}
use Rattle.dia_wire.specs.declared.Key.{Key}
use Rattle.dia_book.specs.Dictionary.{Dictionary, DictEntry, IsDictionary}
use Rattle.dia_book.specs.Keys.{same_key}
use Rattle.dia_book.proofs.LookUpsByName.{find-place, same_bytes-true, same_bytes-refl}
use Rattle.dia_book.proofs.Members.{at_find, find-found}
use Rattle.dia_book.proofs.SameKeys.{same_key-true}
use Rattle.dia_text.specs.declared.keys.AvpCode.{AvpCode}
use Rattle.dia_text.specs.Numbers.{number_below}
use Rattle.dia_text.specs.Keys.{is_other, with_vendor, parted_code, vendor_code, numbered, code_of_key, entry_named, entry_at, code_of}
use Rattle.dia_text.specs.LineTexts.{vendor_text, code_text, has_name, name_or_code, avp_word}
use Rattle.dia_text.proofs.NumbersOfWords.{digits_model}
use Rattle.dia_text.proofs.WordsBack.{is_sign, IsWord, decimal_word, signs_append}
use Rattle.dia_text.proofs.FieldsBack.{number_back}

-- ---- names

run_byte_is_sign : (c : ℕ) → is_run_byte c ≡ true → is_sign c ≡ true
run_byte_is_sign c run = grind (arith, nat_tests)

letter_is_sign : (c : ℕ) → is_ascii_alphanumeric c ≡ true → is_sign c ≡ true
letter_is_sign c letter = grind (arith, nat_tests)

letter_no_brace : (c : ℕ) → is_ascii_alphanumeric c ≡ true → (c == 125) ≡ false
letter_no_brace c letter = grind (arith, nat_tests)

run_is_signs : (cs : List ℕ) → list_all is_run_byte cs ≡ true → list_all is_sign cs ≡ true
run_is_signs [] all = refl
run_is_signs (c ∷ cs) all =
    let parts = and_parts (is_run_byte c) (list_all is_run_byte cs) all in
    signs_append (c ∷ []) cs (and_from _ _ (run_byte_is_sign c parts.0) refl) (run_is_signs cs parts.1)

-- a word that doesn't end a group
pub record BeginsLine (w : List ℕ) : Type 0 where
  pub word : IsWord w
  pub brace : same_bytes w (codes "}") ≡ false

name_run_begins : (name : List ℕ) → is_name_run name ≡ true → BeginsLine name
name_run_begins [] h = absurd (true≢false (sym h))
name_run_begins (c ∷ cs) h =
    let some_letter = and_parts (is_ascii_alphanumeric c && list_all is_run_byte cs) (list_any is_ascii_alphabetic (c ∷ cs)) h in
    let parts = and_parts (is_ascii_alphanumeric c) (list_all is_run_byte cs) some_letter.0 in
    record {
      word = record { some = omega arith; signs = and_from _ _ (letter_is_sign c parts.0) (run_is_signs cs parts.1) };
      brace = and_left _ _ (letter_no_brace c parts.0);
    }

pub name_begins : (name : List ℕ) → IsTrue (is_name name) → BeginsLine name
name_begins name h =
    let outer = and_parts (is_name_run name && nat_le (length name) max_name) (not (same_bytes name (codes "AVP"))) h in
    name_run_begins name (and_parts (is_name_run name) (nat_le (length name) max_name) outer.0).0

-- what holds of each member holds of one
pub member_has : {X : Type 0} (P : X → Type 0) (xs : List X) (i : ℕ) (x : X) → All P xs → slice_get xs i ≡ Some x → P x
member_has P xs i x all at =
    let within = slice_get_within xs i x at in
    subst P (same_Some _ x (sym (slice_get-get_or xs i x within) ∙ at)) (all i x within)

-- the one with a name is found by it
pub found_by_name : {X : Type 0} (name : X → List ℕ) (xs : List X) → ((i j : ℕ) (x y : X) → slice_get xs i ≡ Some x → slice_get xs j ≡ Some y → name x ≡ name y → i ≡ j)
    → (i : ℕ) (x : X) → slice_get xs i ≡ Some x → find (λ y. same_bytes (name y) (name x)) xs ≡ Some x
found_by_name name xs apart i x at =
    let (y, is_found) = find-found (λ z. same_bytes (name z) (name x)) xs i x at (same_bytes-refl (name x)) in
    let (j, there, same) = at_find (λ z. same_bytes (name z) (name x)) xs y is_found in
    let place : j ≡ i = apart j i y x there at (same_bytes-true (name y) (name x) same) in
    let is : Some y ≡ Some x = sym there ∙ ap (slice_get xs) place ∙ at in
    is_found ∙ is

-- ---- numbers

digit_no_slash : (c : ℕ) → is_ascii_digit c ≡ true → is_other 47 c ≡ true
digit_no_slash c digit = grind (arith, nat_tests)

digit_no_brace : (c : ℕ) → is_ascii_digit c ≡ true → (c == 125) ≡ false
digit_no_brace c digit = grind (arith, nat_tests)

up_to_slash : (ds rest : List ℕ) → list_all is_ascii_digit ds ≡ true → prefix_len (is_other 47) (ds ++ (47 ∷ rest)) ≡ length ds
up_to_slash [] rest all = refl
up_to_slash (c ∷ ds) rest all =
    let parts = and_parts (is_ascii_digit c) (list_all is_ascii_digit ds) all in
    let here = digit_no_slash c parts.0 in
    let more = up_to_slash ds rest parts.1 in
    rw (here, more) (omega arith)

parted_read : (word : List ℕ) (at code vendor : ℕ) → prefix_len (is_other 47) word ≡ at → (at == length word) ≡ false → number_below (2 ^ 32) (take at word) ≡ Some code
    → number_below (2 ^ 32) (drop (at + 1) word) ≡ Some vendor → parted_code 47 word ≡ Some (with_vendor code vendor)
parted_read word at code vendor is more left right = rw (is, more, left, right) refl

vendor_read : (word : List ℕ) (at code vendor : ℕ) → prefix_len (is_other 47) word ≡ at → (at == length word) ≡ false → number_below (2 ^ 32) (take at word) ≡ Some code
    → number_below (2 ^ 32) (drop (at + 1) word) ≡ Some vendor → vendor_code word ≡ Some (with_vendor code vendor)
vendor_read word at code vendor is more left right =
    ap (λ (o : Option AvpCode). option_or o (parted_code 58 word)) (parted_read word at code vendor is more left right)

no_number : (word : List ℕ) → 0 < length word → list_all is_ascii_digit word ≡ false → number_below (2 ^ 32) word ≡ None
no_number word some other = rw (lt-ltb 0 (length word) some, other) refl

numbered_by_both : (word : List ℕ) (c : AvpCode) → number_below (2 ^ 32) word ≡ None → vendor_code word ≡ Some c → numbered word ≡ Some c
numbered_by_both word c other same = rw (other, same) refl

numbered_by_code : (word : List ℕ) (code : ℕ) → number_below (2 ^ 32) word ≡ Some code → numbered word ≡ Some (record { code = code; vendor = None })
numbered_by_code word code same = rw same refl

numbers_back : (code : ℕ) (vendor : Option ℕ) → code < 2 ^ 32 → IfSome vendor (λ n. n < 2 ^ 32) → numbered (decimal code ++ vendor_text vendor) ≡ Some (record { code = code; vendor = vendor })
numbers_back code None small none =
    ap numbered (append-nil (decimal code)) ∙ numbered_by_code (decimal code) code (number_back (2 ^ 32) code small (omega (arith, small)))
numbers_back code (Some vendor) small small' =
    let fits : code < 2 ^ 64 = omega (arith, small) in
    let fits' : vendor < 2 ^ 64 = omega (arith, small') in
    let word = decimal code ++ (47 ∷ decimal vendor) in
    let digits = digits_decimal digits_model code fits in
    let size : length word ≡ length (decimal code) + length (47 ∷ decimal vendor) = length-append (decimal code) (47 ∷ decimal vendor) in
    let regrouped : word ≡ (decimal code ++ (47 ∷ [])) ++ decimal vendor = sym (append_assoc (decimal code) (47 ∷ []) (decimal vendor)) in
    let left : take (length (decimal code)) word ≡ decimal code = take_at (decimal code) (47 ∷ decimal vendor) (length (decimal code)) refl in
    let right : drop (length (decimal code) + 1) word ≡ decimal vendor =
    ap (drop (length (decimal code) + 1)) regrouped ∙ drop_at (decimal code ++ (47 ∷ [])) (decimal vendor) (length (decimal code) + 1) (length-append (decimal code) (47 ∷ [])) in
    let no_digits : list_all is_ascii_digit word ≡ false = list_all-append is_ascii_digit (decimal code) (47 ∷ decimal vendor) ∙ and_right _ _ refl in
    numbered_by_both word (with_vendor code vendor) (no_number word (omega (arith, size)) no_digits)
    (vendor_read word (length (decimal code)) code vendor (up_to_slash (decimal code) (decimal vendor) digits) (ne_eqb (length (decimal code)) (length word) (λ e. omega (arith, e, size)))
    (ap (number_below (2 ^ 32)) left ∙ number_back (2 ^ 32) code small fits) (ap (number_below (2 ^ 32)) right ∙ number_back (2 ^ 32) vendor small' fits'))

vendor_signs : (vendor : Option ℕ) → IfSome vendor (λ n. n < 2 ^ 32) → list_all is_sign (vendor_text vendor) ≡ true
vendor_signs None h = refl
vendor_signs (Some n) h = (decimal_word n (omega (arith, h))).signs

digits_begin : (ds more : List ℕ) → IsWord ds → list_all is_ascii_digit ds ≡ true → list_all is_sign more ≡ true → BeginsLine (ds ++ more)
digits_begin [] more word all signs = absurd (let some = word.some in omega (arith, some))
digits_begin (c ∷ ds) more word all signs = record {
  word = record { some = omega arith; signs = signs_append (c ∷ ds) more word.signs signs };
  brace = and_left _ _ (digit_no_brace c (and_parts (is_ascii_digit c) (list_all is_ascii_digit ds) all).0);
}

-- ---- AVPs

-- a word that begins the line of an AVP
pub record NamesAvp (d : Dictionary) (c : AvpCode) (w : List ℕ) : Type 0 where
  pub begins : BeginsLine w
  pub reads : code_of d w ≡ Ok c

code_read : (d : Dictionary) (w : List ℕ) (c : AvpCode) → numbered w ≡ Some c → code_of d w ≡ Ok c
code_read d w c same = rw same refl

name_read : (d : Dictionary) (w : List ℕ) (e : DictEntry) → numbered w ≡ None → entry_named d w ≡ Some e → code_of d w ≡ Ok (code_of_key e.key)
name_read d w e other same = rw (other, same) refl

code_names : (d : Dictionary) (c : AvpCode) → c.code < 2 ^ 32 → IfSome c.vendor (λ n. n < 2 ^ 32) → NamesAvp d c (code_text c)
code_names d c small small' =
    let fits : c.code < 2 ^ 64 = omega (arith, small) in
    record {
      begins = digits_begin (decimal c.code) (vendor_text c.vendor) (decimal_word c.code fits) (digits_decimal digits_model c.code fits) (vendor_signs c.vendor small');
      reads = code_read d (code_text c) c (numbers_back c.code c.vendor small small');
    }

none_is : (o : Option AvpCode) → is_none o ≡ true → o ≡ None
none_is None h = refl
none_is (Some c) h = absurd (true≢false (sym h))

code_again : (code : ℕ) (vendor : Option ℕ) → option_eq nat_eq vendor (Some 0) ≡ false → code_of_key (record { code = code; vendor = unwrap_or vendor 0 }) ≡ record { code = code; vendor = vendor }
code_again code None other = refl
code_again code (Some n) other = rw other refl

not_true : (b : Bool) → not b ≡ true → b ≡ false
not_true true h = absurd (true≢false (sym h))
not_true false h = refl

name_names : (d : Dictionary) (c : AvpCode) (e : DictEntry) → IsDictionary d → entry_at d c ≡ Some e → has_name c e ≡ true → NamesAvp d c e.name
name_names d c e sound is_entry named =
    let key : Key = record { code = c.code; vendor = unwrap_or c.vendor 0 } in
    let tests = and_parts (not (option_eq nat_eq c.vendor (Some 0))) (is_none (numbered e.name)) named in
    let found = find-place (λ (x : DictEntry). same_key key x.key) d.entries ∙ is_entry in
    let (i, at, same) = at_find (λ (x : DictEntry). same_key key x.key) d.entries e found in
    let is_key : key ≡ e.key = same_key-true key e.key same in
    record {
      begins = name_begins e.name (member_has (λ (x : DictEntry). IsTrue (is_name x.name)) d.entries i e sound.entry_names at);
      reads = name_read d e.name e (none_is (numbered e.name) tests.1) (found_by_name (λ (x : DictEntry). x.name) d.entries sound.distinct_names i e at)
          ∙ ap (λ (k : Key). Ok (code_of_key k)) (sym is_key) ∙ ap Ok (code_again c.code c.vendor (not_true (option_eq nat_eq c.vendor (Some 0)) tests.0));
    }

pub word_names : (d : Dictionary) (c : AvpCode) → IsDictionary d → c.code < 2 ^ 32 → IfSome c.vendor (λ n. n < 2 ^ 32) → NamesAvp d c (avp_word d c)
word_names d c sound small small' = by (entry_at d c) refl
  where
    by_name : (e : DictEntry) → entry_at d c ≡ Some e → (b : Bool) → has_name c e ≡ b → NamesAvp d c (if b then e.name else code_text c)
    by_name e is_entry true named = name_names d c e sound is_entry named
    by_name e is_entry false named = code_names d c small small'

    by : (o : Option DictEntry) → entry_at d c ≡ o → NamesAvp d c (name_or_code c o)
    by None is = code_names d c small small'
    by (Some e) is = by_name e is (has_name c e) refl
