-- The numbers that lines write fit their fields, where those of the dictionary do.
use Rattle.std.proofs.Common.{◌≡◌, ℕ, zero, suc, ◌+◌, ◌<◌, ◌^◌, ◌==◌, Bool, true, false, nat_lt, if◌then◌else◌, List, [], ◌∷◌, length, take, drop, Option, Some, None, IfSome, unwrap_or, Result, Ok, Err, codes, refl, subst, arith}
use Rattle.std.specs.Prelude.{IfOk, option_and_then, ⊤}
use Rattle.std.specs.Option.{option_map, option_or}
use Rattle.std.specs.List.{AllByRecursion, find, prefix_len}
use Rattle.std.proofs.lemmas.Bool.{ltb-true}
use Rattle.dia_terms.specs.Names.{same_bytes}
use Rattle.dia_wire.specs.declared.Header.{Header}
use Rattle.dia_wire.specs.declared.Key.{Key}
use Rattle.dia_book.specs.declared.DefHead.{DefHead}
use Rattle.dia_book.specs.declared.DefHead.TheVariants.{Group, Command, Error}
use Rattle.dia_book.specs.Dictionary.{Dictionary, DictEntry, PlainDefinition}
use Rattle.dia_text.specs.declared.fault.Kind.{Kind}
use Rattle.dia_text.specs.declared.fault.Misfit.{Misfit}
use Rattle.dia_text.specs.declared.fault.Wanted.{Wanted}
use Rattle.dia_text.specs.declared.fault.Wanted.TheVariants as want
use Rattle.dia_text.specs.declared.fault.Kind.TheVariants.{Syntax, Name, Value}
use Rattle.dia_text.specs.declared.keys.AvpCode.{AvpCode}
use Rattle.dia_text.specs.declared.commands.Start.{Start}
use Rattle.dia_text.specs.declared.line.Head.{Head}
use Rattle.dia_text.specs.Words.{first_word, after_word}
use Rattle.dia_text.specs.Numbers.{number_of, number_below, any_number, any_below, within}
use Rattle.dia_text.specs.Reading.{◌>>=◌, some_or, at_word}
use Rattle.dia_text.specs.Fields.{number_field, flags_field, length_field, padding_field}
use Rattle.dia_text.specs.Keys.{is_other, with_vendor, parted_code, vendor_code, numbered, code_of_key, entry_named, code_of, default_flags, format_at, class_flags, p_flag, start_of, command_named, start_named}
use Rattle.dia_text.specs.Values.{value_at, after_note}
use Rattle.dia_text.specs.Drafts.{Level, added, no_level}
use Rattle.dia_text.specs.Avps.{avp_letters, no_more, head_at, data_at, close_at, avp_at, part_at, in_line}
use Rattle.dia_text.specs.Groups.{member_at, after_part, is_last, group_from, group_at}
use Rattle.dia_text.specs.Lines.{header_letters, whole_line, line_of, start_at, header_at, header_of}
use Rattle.dia_text.specs.PlainLines.{PlainLine, Blank, Leaf, Open, Close}
use Rattle.dia_text.specs.ValidTexts.{KeyFits, AppFits, NumbersFit}

-- ---- reading

-- what holds of the first part, and so of what is read
pub reads : {A B E : Type 0} (P : A → Type 0) (Q : B → Type 0) (r : Result A E) (f : A → Result B E) → IfOk r P → ((x : A) → P x → IfOk (f x) Q) → IfOk (r >>= f) Q
reads P Q (Ok x) f h more = more x h
reads P Q (Err k) f h more = tt

pub any : {A E : Type 0} (r : Result A E) → IfOk r (λ x. ⊤)
any (Ok x) = tt
any (Err k) = tt

pub some_fits : {A : Type 0} (P : A → Type 0) (o : Option A) (k : Kind) → IfSome o P → IfOk (some_or o k) P
some_fits P (Some x) k h = h
some_fits P None k h = tt

pub at_fits : {A : Type 0} (P : A → Type 0) (text : List ℕ) (wanted : Wanted) (r : Result A Kind) → IfOk r P → IfOk (at_word text wanted r) P
at_fits P text wanted (Ok x) h = h
at_fits P text wanted (Err k) h = tt

either : {A : Type 0} (P : A → Type 0) (a b : Option A) → IfSome a P → IfSome b P → IfSome (option_or a b) P
either P (Some x) b h k = h
either P None b h k = k

pub if_ok : {A E : Type 0} (P : A → Type 0) (b : Bool) (x y : Result A E) → IfOk x P → IfOk y P → IfOk (if b then x else y) P
if_ok P true x y h k = h
if_ok P false x y h k = k

within_fits : (limit n : ℕ) → IfSome (within limit n) (λ k. k < limit)
within_fits limit n = by (nat_lt n limit) refl
  where
    by : (b : Bool) → nat_lt n limit ≡ b → IfSome (if b then Some n else None) (λ k. k < limit)
    by true e = ltb-true n limit e
    by false e = tt

below_fits : (limit : ℕ) (o : Option ℕ) → IfSome (option_and_then (within limit) o) (λ k. k < limit)
below_fits limit None = tt
below_fits limit (Some n) = within_fits limit n

number_fits : (limit : ℕ) (word : List ℕ) → IfSome (number_below limit word) (λ n. n < limit)
number_fits limit word = below_fits limit (number_of word)

any_fits : (limit : ℕ) (word : List ℕ) → IfSome (any_below limit word) (λ n. n < limit)
any_fits limit word = below_fits limit (any_number word)

-- ---- AVPs

abbrev pub CodeFits : AvpCode → Type 0
CodeFits c = (c.code < 2 ^ 32) × IfSome c.vendor (λ v. v < 2 ^ 32)

alone_fits : (o : Option ℕ) → IfSome o (λ n. n < 2 ^ 32) → IfSome (option_map (λ code. record { code = code; vendor = None }) o) CodeFits
alone_fits None h = tt
alone_fits (Some n) h = (h, tt)

pair_fits : (a b : Option ℕ) → IfSome a (λ n. n < 2 ^ 32) → IfSome b (λ n. n < 2 ^ 32) → IfSome (option_and_then (λ code. option_map (with_vendor code) b) a) CodeFits
pair_fits None b h k = tt
pair_fits (Some n) None h k = tt
pair_fits (Some n) (Some m) h k = (h, k)

parted_fits : (mark : ℕ) (word : List ℕ) → IfSome (parted_code mark word) CodeFits
parted_fits mark word = by (at == length word)
  where
    at : ℕ
    at = prefix_len (is_other mark) word

    both : Option AvpCode
    both = option_and_then (λ code. option_map (with_vendor code) (number_below (2 ^ 32) (drop (at + 1) word))) (number_below (2 ^ 32) (take at word))

    by : (b : Bool) → IfSome (if b then None else both) CodeFits
    by true = tt
    by false = pair_fits (number_below (2 ^ 32) (take at word)) (number_below (2 ^ 32) (drop (at + 1) word)) (number_fits (2 ^ 32) (take at word)) (number_fits (2 ^ 32) (drop (at + 1) word))

key_fits : (key : Key) → KeyFits key → CodeFits (code_of_key key)
key_fits key h = (h.0, by (key.vendor == 0))
  where
    by : (b : Bool) → IfSome (if b then None else Some key.vendor) (λ v. v < 2 ^ 32)
    by true = tt
    by false = h.1

found_fits : {X : Type 0} (P : X → Type 0) (p : X → Bool) (xs : List X) → AllByRecursion P xs → IfSome (find p xs) P
found_fits P p [] all = tt
found_fits P p (x ∷ xs) (h, all) = by (p x) (found_fits P p xs all)
  where
    by : (b : Bool) → IfSome (find p xs) P → IfSome (if b then Some x else find p xs) P
    by true more = h
    by false more = more

named_fits : (o : Option DictEntry) → IfSome o (λ e. KeyFits e.key) → IfSome (option_map (λ e. code_of_key e.key) o) CodeFits
named_fits None h = tt
named_fits (Some e) h = key_fits e.key h

code_fits : (d : Dictionary) (word : List ℕ) → NumbersFit d → IfOk (code_of d word) CodeFits
code_fits d word fit =
    some_fits CodeFits (option_or (numbered word) (option_map (λ e. code_of_key e.key) (entry_named d word))) Name
    (either CodeFits (numbered word) (option_map (λ e. code_of_key e.key) (entry_named d word))
    (either CodeFits (option_map (λ code. record { code = code; vendor = None }) (number_below (2 ^ 32) word)) (vendor_code word) (alone_fits (number_below (2 ^ 32) word) (number_fits (2 ^ 32) word))
    (either CodeFits (parted_code 47 word) (parted_code 58 word) (parted_fits 47 word) (parted_fits 58 word)))
    (named_fits (entry_named d word) (found_fits (λ e. KeyFits e.key) (λ e. same_bytes e.name word) d.entries fit.0)))

head_fits : (d : Dictionary) (text : List ℕ) → NumbersFit d → IfOk (head_at d text) (λ x. CodeFits x.0.code)
unfolding head_at
head_fits d text fit =
    reads CodeFits (λ x. CodeFits x.0.code) (at_word text want.AvpName (code_of d (first_word text))) _
    (at_fits CodeFits text want.AvpName (code_of d (first_word text)) (code_fits d (first_word text) fit))
    (λ code h. reads (λ _. ⊤) (λ x. CodeFits x.0.code) (flags_field avp_letters want.AvpFlags (Some (default_flags d code)) want.AvpFlags (after_word text)) _
    (any (flags_field avp_letters want.AvpFlags (Some (default_flags d code)) want.AvpFlags (after_word text)))
    (λ flags u. reads (λ _. ⊤) (λ x. CodeFits x.0.code) (length_field flags.1) _ (any (length_field flags.1)) (λ len v. h)))

-- the head of a line, if it has one
abbrev pub LineFits : PlainLine → Type 0
LineFits Blank = ⊤
LineFits (Leaf head bytes pad) = CodeFits head.code
LineFits (Open head) = CodeFits head.code
LineFits (Close pad) = ⊤

data_fits : (d : Dictionary) (head : Head) (text : List ℕ) → CodeFits head.code → IfOk (data_at d head text) (λ x. LineFits x.0)
unfolding data_at
data_fits d head text h =
    reads (λ _. ⊤) (λ x. LineFits x.0) (value_at (format_at d head.code) text) _ (any (value_at (format_at d head.code) text))
    (λ value u. reads (λ _. ⊤) (λ x. LineFits x.0) (padding_field (after_note (format_at d head.code) value.0 value.1)) _ (any (padding_field (after_note (format_at d head.code) value.0 value.1)))
    (λ pad v. h))

close_fits : (text : List ℕ) → IfOk (close_at text) (λ x. LineFits x.0)
unfolding close_at
close_fits text = reads (λ _. ⊤) (λ x. LineFits x.0) (padding_field text) _ (any (padding_field text)) (λ pad u. tt)

avp_fits : (d : Dictionary) (text : List ℕ) → NumbersFit d → IfOk (avp_at d text) (λ x. LineFits x.0)
unfolding avp_at
avp_fits d text fit =
    reads (λ x. CodeFits x.0.code) (λ x. LineFits x.0) (head_at d text) _ (head_fits d text fit)
    (λ head h. if_ok (λ x. LineFits x.0) (same_bytes (first_word head.1) (codes "{")) (Ok (Open head.0, after_word head.1)) (data_at d head.0 head.1) h (data_fits d head.0 head.1 h))

part_fits : (d : Dictionary) (text : List ℕ) → NumbersFit d → IfOk (part_at d text) (λ x. LineFits x.0)
unfolding part_at
part_fits d text fit =
    if_ok (λ x. LineFits x.0) (same_bytes (first_word text) (codes "}")) (close_at (after_word text)) (avp_at d text) (close_fits (after_word text)) (avp_fits d text fit)

-- a group has the head of its line
group_fits : (n : ℕ) (d : Dictionary) (head : Head) (level : Level) (text : List ℕ) → CodeFits head.code → IfOk (group_from n d head level text) LineFits
unfolding group_from
group_fits zero d head level text h = tt
group_fits (suc n) d head level text h =
    reads (λ _. ⊤) LineFits (member_at d text) _ (any (member_at d text))
    (λ part u. if_ok LineFits (is_last part.0 level.outer) _ _
    (reads (λ _. ⊤) LineFits (no_more part.1) _ (any (no_more part.1)) (λ e v. h))
    (reads (λ _. ⊤) LineFits (in_line d text part.0 (added level part.0)) _ (any (in_line d text part.0 (added level part.0)))
    (λ next v. reads (λ _. ⊤) LineFits (after_part part.0 part.1) _ (any (after_part part.0 part.1)) (λ rest w. group_fits n d head next rest h))))

whole_fits : (d : Dictionary) (part : PlainLine) (rest : List ℕ) → LineFits part → IfOk (whole_line d part rest) LineFits
whole_fits d Blank rest h = reads (λ _. ⊤) LineFits (no_more rest) _ (any (no_more rest)) (λ e u. tt)
whole_fits d (Leaf head bytes pad) rest h = reads (λ _. ⊤) LineFits (no_more rest) _ (any (no_more rest)) (λ e u. h)
whole_fits d (Open head) rest h =
    if_ok LineFits (length (first_word rest) == 0) (Ok (Open head)) (group_at d head rest) h (group_fits (length rest) d head no_level rest h)
whole_fits d (Close pad) rest h = reads (λ _. ⊤) LineFits (no_more rest) _ (any (no_more rest)) (λ e u. tt)

pub line_fits : (d : Dictionary) (text : List ℕ) → NumbersFit d → IfOk (line_of d text) LineFits
unfolding line_of
line_fits d text fit =
    if_ok LineFits (length (first_word text) == 0) (Ok Blank) _ tt
    (reads (λ x. LineFits x.0) LineFits (part_at d text) _ (part_fits d text fit) (λ part h. whole_fits d part.0 part.1 h))

-- ---- headers

pub record HasFields (h : Header) : Type 0 where
  pub code : h.code < 2 ^ 24
  pub app : h.app < 2 ^ 32
  pub hop : h.hop < 2 ^ 32
  pub e2e : h.e2e < 2 ^ 32

abbrev StartFits : Start → Type 0
StartFits s = (s.code < 2 ^ 24) × IfSome s.app (λ a. a < 2 ^ 32)

field_fits : (keyword : List ℕ) (default : Option ℕ) (wanted : Wanted) (text : List ℕ) → IfSome default (λ n. n < 2 ^ 32)
    → IfOk (number_field keyword default wanted text) (λ x. x.0 < 2 ^ 32)
unfolding number_field
field_fits keyword default wanted text h =
    let number = some_or (any_below (2 ^ 32) (first_word (after_word text))) Value in
    if_ok (λ x. x.0 < 2 ^ 32) (same_bytes (first_word text) keyword) _ _
    (reads (λ n. n < 2 ^ 32) (λ x. x.0 < 2 ^ 32) (at_word (after_word text) want.Number number) _
    (at_fits (λ n. n < 2 ^ 32) (after_word text) want.Number number
    (some_fits (λ n. n < 2 ^ 32) (any_below (2 ^ 32) (first_word (after_word text))) Value (any_fits (2 ^ 32) (first_word (after_word text))))) (λ n k. k))
    (reads (λ n. n < 2 ^ 32) (λ x. x.0 < 2 ^ 32) (at_word text wanted (some_or default Syntax)) _
    (at_fits (λ n. n < 2 ^ 32) text wanted (some_or default Syntax) (some_fits (λ n. n < 2 ^ 32) default Syntax h)) (λ n k. k))

app_or_zero : (app : Option ℕ) → IfSome app (λ a. a < 2 ^ 32) → unwrap_or app 0 < 2 ^ 32
app_or_zero None h = omega arith
app_or_zero (Some a) h = h

start_fits : (head : DefHead) → AppFits head → IfSome (start_of head) StartFits
start_fits (Group key) h = tt
start_fits (Error p) h = tt
start_fits (Command code class app p) h = by (nat_lt code (2 ^ 24)) refl
  where
    by : (b : Bool) → nat_lt code (2 ^ 24) ≡ b → IfSome (if b then Some (record { code = code; flags = Some (class_flags class + p_flag p); app = Some (unwrap_or app 0) }) else None) StartFits
    by true e = (ltb-true code (2 ^ 24) e, app_or_zero app h)
    by false e = tt

begun_fits : (o : Option PlainDefinition) → IfSome o (λ c. AppFits c.head) → IfSome (option_and_then (λ c. start_of c.head) o) StartFits
begun_fits None h = tt
begun_fits (Some c) h = start_fits c.head h

name_fits : (d : Dictionary) (word : List ℕ) → NumbersFit d → IfOk (start_named d word) StartFits
name_fits d word fit =
    some_fits StartFits (option_and_then (λ c. start_of c.head) (command_named d word)) Name
    (begun_fits (command_named d word) (found_fits (λ c. AppFits c.head) (λ c. same_bytes c.name word) d.commands fit.1))

begins_fit : (d : Dictionary) (text : List ℕ) → NumbersFit d → IfOk (start_at d text) (λ x. StartFits x.0)
unfolding start_at
begins_fit d text fit =
    let code = some_or (any_below (2 ^ 24) (first_word (after_word text))) Value in
    if_ok (λ x. StartFits x.0) (same_bytes (first_word text) (codes "code")) _ _
    (reads (λ n. n < 2 ^ 24) (λ x. StartFits x.0) (at_word (after_word text) want.CommandCode code) _
    (at_fits (λ n. n < 2 ^ 24) (after_word text) want.CommandCode code
    (some_fits (λ n. n < 2 ^ 24) (any_below (2 ^ 24) (first_word (after_word text))) Value (any_fits (2 ^ 24) (first_word (after_word text))))) (λ n k. (k, tt)))
    (reads StartFits (λ x. StartFits x.0) (at_word text want.CommandName (start_named d (first_word text))) _
    (at_fits StartFits text want.CommandName (start_named d (first_word text)) (name_fits d (first_word text) fit)) (λ s k. k))

fields_fit : (d : Dictionary) (text : List ℕ) → NumbersFit d → IfOk (header_at d text) HasFields
unfolding header_at
fields_fit d text fit =
    reads (λ x. StartFits x.0) HasFields (start_at d text) _ (begins_fit d text fit)
    (λ start s. reads (λ _. ⊤) HasFields (flags_field header_letters want.CommandFlags start.0.flags want.Flags start.1) _
    (any (flags_field header_letters want.CommandFlags start.0.flags want.Flags start.1))
    (λ flags u. reads (λ x. x.0 < 2 ^ 32) HasFields (number_field (codes "app") start.0.app want.App flags.1) _ (field_fits (codes "app") start.0.app want.App flags.1 s.1)
    (λ app a. reads (λ x. x.0 < 2 ^ 32) HasFields (number_field (codes "hop") None want.Hop app.1) _ (field_fits (codes "hop") None want.Hop app.1 tt)
    (λ hop b. reads (λ x. x.0 < 2 ^ 32) HasFields (number_field (codes "end") None want.End hop.1) _ (field_fits (codes "end") None want.End hop.1 tt)
    (λ e2e c. reads (λ _. ⊤) HasFields (no_more e2e.1) _ (any (no_more e2e.1)) (λ e v. record { code = s.0; app = a; hop = b; e2e = c }))))))

pub header_fits : (d : Dictionary) (text : List ℕ) → NumbersFit d → IfOk (header_of d text) (λ o. IfSome o HasFields)
unfolding header_of
header_fits d text fit =
    if_ok (λ o. IfSome o HasFields) (length (first_word text) == 0) (Ok None) _ tt
    (reads HasFields (λ o. IfSome o HasFields) (header_at d text) _ (fields_fit d text fit) (λ h k. k))

-- ---- of what was read

pub read_fits : (d : Dictionary) (text : List ℕ) (l : PlainLine) → NumbersFit d → line_of d text ≡ Ok l → LineFits l
read_fits d text l fit is = subst (λ (r : Result PlainLine Misfit). IfOk r LineFits) is (line_fits d text fit)

pub header_read : (d : Dictionary) (text : List ℕ) (h : Header) → NumbersFit d → header_of d text ≡ Ok (Some h) → HasFields h
header_read d text h fit is = subst (λ (r : Result (Option Header) Misfit). IfOk r (λ o. IfSome o HasFields)) is (header_fits d text fit)
