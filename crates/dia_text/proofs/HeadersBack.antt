-- The line of a header, read back.
use Rattle.std.proofs.Common.{◌≡◌, ℕ, ◌+◌, ◌^◌, ◌<◌, ◌==◌, ◌&&◌, nat_eq, nat_lt, Bool, true, false, not, if◌then◌else◌, List, [], ◌∷◌, ◌++◌, length, Option, Some, None, unwrap_or, Ok, IsTrue, codes, refl, sym, ap, ◌∙◌, arith}
use Rattle.std.specs.Prelude.{find}
use Rattle.std.specs.Option.{option_eq, option_map_or}
use Rattle.std.proofs.lemmas.Bool.{and_parts, eqb-true, ne_eqb, true≢false}
use Rattle.std.proofs.lemmas.Option.{none-some, same_Some}
use Rattle.std.specs.Fmt.{decimal}
use Rattle.dia_terms.specs.Names.{same_bytes, is_name}
use Rattle.dia_wire.specs.declared.Header.{Header}
use Rattle.dia_book.specs.declared.DefHead.{DefHead}
use Rattle.dia_book.specs.declared.DefHead.TheVariants.{Group, Command, Error}
use Rattle.dia_book.specs.Dictionary.{Dictionary, PlainDefinition, IsDictionary}
use Rattle.dia_book.proofs.Members.{at_find}
use Rattle.dia_text.specs.declared.fault.Wanted.TheVariants as want
use Rattle.dia_text.specs.declared.commands.Start.{Start}
use Rattle.dia_text.specs.Words.{first_word, after_word}
use Rattle.dia_text.specs.Numbers.{any_below}
use Rattle.dia_text.specs.Fields.{flags_field, number_field}
use Rattle.dia_text.specs.Keys.{class_flags, p_flag, start_of, command_named, start_named}
use Rattle.dia_text.specs.Lines.{header_letters, start_at, header_at, header_of}
use Rattle.dia_text.specs.Avps.{no_more}
use Rattle.dia_text.specs.LineTexts.{spaced, app_words, identifier_words, field_words, code_start, code_header, named_header, header_text, header_line, class_bits, serves, names_header}
use Rattle.dia_text.proofs.Bytes.{HasFields}
use Rattle.dia_text.proofs.WordsBack.{AreWords, HasNoFeed, first_is, after_is, next_is, after_next, no_feed_words, no_feed_line, decimal_word}
use Rattle.dia_text.proofs.FieldsBack.{keyword, any_back, flags_back, app_back, number_written, flags_are_words, app_are_words}
use Rattle.dia_text.proofs.KeysBack.{name_begins, member_has, found_by_name}

-- ---- the fields behind the first word

no_word : no_more [] ≡ Ok tt
no_word = refl

start_by_code : (d : Dictionary) (text more word rest : List ℕ) (n : ℕ) → first_word text ≡ codes "code" → after_word text ≡ more → first_word more ≡ word → after_word more ≡ rest
    → any_below (2 ^ 24) word ≡ Some n → start_at d text ≡ Ok (record { code = n; flags = None; app = None }, rest)
unfolding start_at
start_by_code d text more word rest n k b f e value = rw (k, b, f, e, value) refl

start_by_name : (d : Dictionary) (text name rest : List ℕ) (s : Start) → first_word text ≡ name → after_word text ≡ rest → same_bytes name (codes "code") ≡ false → start_named d name ≡ Ok s
    → start_at d text ≡ Ok (s, rest)
unfolding start_at
start_by_name d text name rest s is b other named = rw (is, other, named, b) refl

header_read : (d : Dictionary) (text t1 t2 t3 t4 : List ℕ) (s : Start) (flags app hop e2e : ℕ) → start_at d text ≡ Ok (s, t1) → flags_field header_letters want.CommandFlags s.flags want.Flags t1 ≡ Ok (flags, t2)
    → number_field (codes "app") s.app want.App t2 ≡ Ok (app, t3) → number_field (codes "hop") None want.Hop t3 ≡ Ok (hop, t4) → number_field (codes "end") None want.End t4 ≡ Ok (e2e, [])
    → header_at d text ≡ Ok (record { flags = flags; code = s.code; app = app; hop = hop; e2e = e2e })
unfolding header_at
header_read d text t1 t2 t3 t4 s flags app hop e2e a b c e f = rw (a, b, c, e, f) refl

line_is_header : (d : Dictionary) (text : List ℕ) (h : Header) → 0 < length (first_word text) → header_at d text ≡ Ok h → header_of d text ≡ Ok (Some h)
unfolding header_of
line_is_header d text h some is =
    let other : (length (first_word text) == 0) ≡ false = ne_eqb (length (first_word text)) 0 (λ e. omega (arith, e, some)) in
    rw (other, is) refl

hop_first : (h : Header) → same_bytes (first_word (spaced (identifier_words h))) (codes "app") ≡ false
hop_first h = ap (λ (w : List ℕ). same_bytes w (codes "app")) (next_is (codes "hop") (decimal h.hop ∷ codes "end" ∷ decimal h.e2e ∷ []) (keyword (codes "hop") (omega arith) refl))

no_flags_first : (h : Header) (default : Option ℕ) → same_bytes (first_word (spaced (app_words default h.app ++ identifier_words h))) (codes "flags") ≡ false
no_flags_first h default = by (option_eq nat_eq default (Some h.app))
  where
    by : (b : Bool) → same_bytes (first_word (spaced ((if b then [] else (codes "app" ∷ decimal h.app ∷ [])) ++ identifier_words h))) (codes "flags") ≡ false
    by true = ap (λ (w : List ℕ). same_bytes w (codes "flags")) (next_is (codes "hop") (decimal h.hop ∷ codes "end" ∷ decimal h.e2e ∷ []) (keyword (codes "hop") (omega arith) refl))
    by false = ap (λ (w : List ℕ). same_bytes w (codes "flags")) (next_is (codes "app") (decimal h.app ∷ identifier_words h) (keyword (codes "app") (omega arith) refl))

fields_back : (d : Dictionary) (h : Header) (s : Start) (n : ℕ) (b text : List ℕ) → HasFields h n b → s.code ≡ h.code → start_at d text ≡ Ok (s, spaced (field_words h s))
    → header_at d text ≡ Ok h
fields_back d h s n b text f same start =
    header_read d text (spaced (field_words h s)) (spaced (app_words s.app h.app ++ identifier_words h)) (spaced (identifier_words h)) (spaced (codes "end" ∷ decimal h.e2e ∷ [])) s h.flags h.app h.hop h.e2e
    start (flags_back header_letters want.CommandFlags want.Flags s.flags h.flags (app_words s.app h.app ++ identifier_words h) f.flags (no_flags_first h s.app))
    (app_back want.App s.app h.app (identifier_words h) f.app (hop_first h))
    (number_written (codes "hop") want.Hop None h.hop (codes "end" ∷ decimal h.e2e ∷ []) f.hop (keyword (codes "hop") (omega arith) refl) refl)
    (number_written (codes "end") want.End None h.e2e [] f.e2e (keyword (codes "end") (omega arith) refl) refl)
    ∙ ap (λ (k : ℕ). Ok (record { flags = h.flags; code = k; app = h.app; hop = h.hop; e2e = h.e2e })) same

-- ---- what the line begins with

-- a line that is read as the header
pub record IsHeaderLine (d : Dictionary) (h : Header) (line : List ℕ) : Type 0 where
  pub reads : header_of d line ≡ Ok (Some h)
  pub feeds : HasNoFeed line

field_are_words : (h : Header) (s : Start) (n : ℕ) (b : List ℕ) → HasFields h n b → AreWords (field_words h s)
field_are_words h s n b f =
    flags_are_words s.flags h.flags (app_words s.app h.app ++ identifier_words h) f.flags (app_are_words s.app h.app (identifier_words h) f.app
    (keyword (codes "hop") (omega arith) refl, (decimal_word h.hop (omega (arith, f.hop)), (keyword (codes "end") (omega arith) refl, (decimal_word h.e2e (omega (arith, f.e2e)), tt)))))

by_code : (d : Dictionary) (h : Header) (n : ℕ) (b : List ℕ) → HasFields h n b → IsHeaderLine d h (code_header h)
by_code d h n b f =
    let word = keyword (codes "code") (omega arith) refl in
    let ws : List (List ℕ) = decimal h.code ∷ field_words h (code_start h) in
    let fits : h.code < 2 ^ 64 = omega (arith, f.code) in
    let number = decimal_word h.code fits in
    let first = first_is (codes "code") ws word in
    let start = start_by_code d (code_header h) (spaced ws) (decimal h.code) (spaced (field_words h (code_start h))) h.code first (after_is (codes "code") ws word)
    (next_is (decimal h.code) (field_words h (code_start h)) number) (after_next (decimal h.code) (field_words h (code_start h)) number) (any_back (2 ^ 24) h.code f.code fits) in
    record {
      reads = line_is_header d (code_header h) h (omega (arith, ap length first)) (fields_back d h (code_start h) n b (code_header h) f refl start);
      feeds = no_feed_line (codes "code") ws word (no_feed_words ws (number, field_are_words h (code_start h) n b f));
    }

served_code : (h : Header) (head : DefHead) (s : Start) → serves h head ≡ true → start_of head ≡ Some s → s.code ≡ h.code
served_code h (Group key) s served is = absurd (true≢false (sym served))
served_code h (Error p) s served is = absurd (true≢false (sym served))
served_code h (Command code class app p) s served is = by (nat_lt code (2 ^ 24)) is
  where
    is_code : code ≡ h.code
    is_code = eqb-true code h.code (and_parts (code == h.code) (class_flags class == class_bits h.flags)
        (and_parts (code == h.code && class_flags class == class_bits h.flags) (option_map_or (λ (a : ℕ). a == h.app) app true) served).0).0

    by : (b : Bool) → (if b then Some (record { code = code; flags = Some (class_flags class + p_flag p); app = Some (unwrap_or app 0) }) else None) ≡ Some s → s.code ≡ h.code
    by true e = ap (λ (x : Start). x.code) (sym (same_Some _ s e)) ∙ is_code
    by false e = absurd (none-some s e)

named_start : (d : Dictionary) (name : List ℕ) (c : PlainDefinition) (s : Start) → command_named d name ≡ Some c → start_of c.head ≡ Some s → start_named d name ≡ Ok s
named_start d name c s named is = rw (named, is) refl

no_code : (b : Bool) → not b ≡ true → b ≡ false
no_code true h = absurd (true≢false (sym h))
no_code false h = refl

by_name : (d : Dictionary) (h : Header) (n : ℕ) (b : List ℕ) (c : PlainDefinition) (s : Start) → IsDictionary d → HasFields h n b → find (names_header h) d.commands ≡ Some c → start_of c.head ≡ Some s
    → IsHeaderLine d h (c.name ++ spaced (field_words h s))
by_name d h n b c s sound f found is =
    let (i, at, passes) = at_find (names_header h) d.commands c found in
    let tests = and_parts (serves h c.head) (not (same_bytes c.name (codes "code"))) passes in
    let begins = name_begins c.name (member_has (λ (x : PlainDefinition). IsTrue (is_name x.name)) d.commands i c sound.command_names at) in
    let ws = field_words h s in
    let line = c.name ++ spaced ws in
    let first = first_is c.name ws begins.word in
    let named = named_start d c.name c s (found_by_name (λ (x : PlainDefinition). x.name) d.commands sound.distinct_commands i c at) is in
    let start = start_by_name d line c.name (spaced ws) s first (after_is c.name ws begins.word) (no_code (same_bytes c.name (codes "code")) tests.1) named in
    let some = begins.word.some in
    record {
      reads = line_is_header d line h (omega (arith, ap length first, some)) (fields_back d h s n b line f (served_code h c.head s tests.0 is) start);
      feeds = no_feed_line c.name ws begins.word (no_feed_words ws (field_are_words h s n b f));
    }

pub header_back : (d : Dictionary) (h : Header) (n : ℕ) (b : List ℕ) → IsDictionary d → HasFields h n b → IsHeaderLine d h (header_line d h)
header_back d h n b sound f = by (find (names_header h) d.commands) refl
  where
    by_start : (c : PlainDefinition) → find (names_header h) d.commands ≡ Some c → (o : Option Start) → start_of c.head ≡ o → IsHeaderLine d h (named_header h c.name o)
    by_start c found None is = by_code d h n b f
    by_start c found (Some s) is = by_name d h n b c s sound f found is

    by : (o : Option PlainDefinition) → find (names_header h) d.commands ≡ o → IsHeaderLine d h (header_text h o)
    by None found = by_code d h n b f
    by (Some c) found = by_start c found (start_of c.head) refl
