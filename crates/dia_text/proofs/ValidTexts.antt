-- The law: what valid lines add is a valid level, and what a valid text makes a valid message.
use Rattle.std.proofs.Common.{◌≡◌, ℕ, suc, ◌+◌, ◌<◌, ◌^◌, Bool, true, false, nat_lt, if◌then◌else◌, List, [], ◌∷◌, ◌++◌, length, map, Option, Some, None, Result, Ok, Err, refl, sym, ap, subst, ◌∙◌, append_assoc, append-nil, inl, inr}
use Rattle.std.specs.Prelude.{◌⊎◌, MatchOption}
use Rattle.std.specs.List.{AllByRecursion}
use Rattle.std.proofs.lemmas.Bool.{ltb-true}
use Rattle.std.proofs.lemmas.List.{length-append}
use Rattle.dia_wire.specs.declared.Header.{Header}
use Rattle.dia_wire.specs.declared.Key.{Key}
use Rattle.dia_wire.specs.Wire.{PlainAvp, key_of, Spells, SpellsAll, IsHead}
use Rattle.dia_wire.specs.Written.{header_bytes}
use Rattle.dia_wire.proofs.Written.{header_spelled, four}
use Rattle.dia_data.specs.Leaf.{IsLeaf}
use Rattle.dia_book.specs.declared.DRule.{DRule}
use Rattle.dia_book.specs.Dictionary.{Dictionary, DictEntry, PlainDefinition}
use Rattle.dia_terms.specs.declared.Unknown.{Unknown}
use Rattle.dia_valid.specs.Valid.{MHolds, IsAccepted, IsLevel, Fits, Placed}
use Rattle.dia_text.specs.declared.fault.Kind.{Kind}
use Rattle.dia_text.specs.declared.fault.Misfit.{Misfit}
use Rattle.dia_text.specs.declared.fault.Wanted.TheVariants.{ShorterMessage}
use Rattle.dia_text.specs.declared.fault.Kind.TheVariants.{Limit}
use Rattle.dia_text.specs.declared.fault.Fault.{Fault}
use Rattle.dia_text.specs.declared.line.Head.{Head}
use Rattle.dia_text.specs.Reading.{◌>>=◌, misfit}
use Rattle.dia_text.specs.PlainLines.{Blank, Leaf, Open, Close}
use Rattle.dia_text.specs.Lines.{line_of, header_of}
use Rattle.dia_text.specs.Drafts.{Level, added, avp_of}
use Rattle.dia_text.specs.Made.{made, message_from, body_from, begin, step, finished, line_added, fault_at}
use Rattle.dia_text.specs.Drafts.{no_level}
use Rattle.dia_text.specs.Avps.{in_line, value_misfit, brace_wanted}
use Rattle.dia_text.specs.ValidTexts.{NumbersFit, IsOwn, key_at, IsValidLevel, end, blank, leaf, group, IsHeaderOf, IsValidText, IsValidOrLong}
use Rattle.dia_text.proofs.Drawn.{drawn, bytes_drawn, own_m, added_or_long}
use Rattle.dia_text.proofs.ValidFields.{CodeFits, HasFields, read_fits, header_read}
use Rattle.dia_text.proofs.Fitting.{all_fit}

-- ---- an AVP fits

abbrev BodyOf : Unknown → (List DRule → List ℕ → Type 0) → PlainAvp → Option DictEntry → Type 0
BodyOf u P v o = MatchOption o (IsAccepted u v.flags) (λ e. MHolds e.rule v.flags × MatchOption e.group (IsLeaf e.format v.bytes) (λ group. P group.rules v.bytes))

leaf_fits : (d : Dictionary) (u : Unknown) (head : Head) (e : DictEntry) (bytes : List ℕ) → IsOwn d head e → e.group ≡ None → IsLeaf e.format bytes → Fits d u 0 (drawn head bytes)
leaf_fits d u head e bytes own none h =
    subst (BodyOf u (λ rules b. ⊥) (drawn head bytes)) (sym own.known)
    (own_m d head e own, subst (λ (o : Option PlainDefinition). MatchOption o (IsLeaf e.format bytes) (λ group. ⊥)) (sym none) h)

group_fits : (d : Dictionary) (u : Unknown) (n : ℕ) (head : Head) (e : DictEntry) (x : PlainDefinition) (bytes : List ℕ) → IsOwn d head e → e.group ≡ Some x → IsLevel (Fits d u n) x.rules bytes
    → Fits d u (suc n) (drawn head bytes)
group_fits d u n head e x bytes own is h =
    subst (BodyOf u (IsLevel (Fits d u n)) (drawn head bytes)) (sym own.known)
    (own_m d head e own, subst (λ (o : Option PlainDefinition). MatchOption o (IsLeaf e.format bytes) (λ group. IsLevel (Fits d u n) group.rules bytes)) (sym is) h)

-- ---- what a line adds

-- the reading ends with a length that is too great
abbrev IsLong : Result (List ℕ) Fault → Type 0
IsLong (Ok bytes) = ⊥
IsLong (Err fault) = fault.kind ≡ Limit

bound : {A B E : Type 0} (r : Result A E) (x : A) (f : A → Result B E) (y : Result B E) → r ≡ Ok x → f x ≡ y → (r >>= f) ≡ y
bound {A} {B} {E} r x f y is after = ap (λ (q : Result A E). q >>= f) is ∙ after

bad : {A B : Type 0} (r : Result A Kind) (k : Kind) (f : A → Result B Kind) → r ≡ Err k → (r >>= f) ≡ Err k
bad {A} r k f is = ap (λ (q : Result A Kind). q >>= f) is

goes_on : (d : Dictionary) (h : Header) (n : ℕ) (l : List ℕ) (ls : List (List ℕ)) (at next : Level) → line_added d l at ≡ Ok next → body_from d h n (l ∷ ls) at ≡ body_from d h (n + 1) ls next
goes_on d h n l ls at next is = ap (λ (r : Result Level Misfit). step r l (n + 1) (body_from d h (n + 1) ls)) is

too_long : (d : Dictionary) (h : Header) (n : ℕ) (l : List ℕ) (ls : List (List ℕ)) (at : Level) (e : Misfit) → e.kind ≡ Limit → line_added d l at ≡ Err e → IsLong (body_from d h n (l ∷ ls) at)
too_long d h n l ls at e long is = subst IsLong (sym (ap (λ (r : Result Level Misfit). step r l (n + 1) (body_from d h (n + 1) ls)) is)) long

-- a level with more bytes at its end
abbrev with_bytes : Level → List ℕ → Level
with_bytes at more = record { outer = at.outer; bytes = at.bytes ++ more }

abbrev opened : Level → Head → Level
opened at head = record { outer = record { before = at.bytes; head = head } ∷ at.outer; bytes = [] }

abbrev inside : Level → Head → List ℕ → Level
inside at head bytes = record { outer = record { before = at.bytes; head = head } ∷ at.outer; bytes = bytes }

leaf_line : (d : Dictionary) (l : List ℕ) (at : Level) (head : Head) (bytes : List ℕ) (r : Result Level Kind) → line_of d l ≡ Ok (Leaf head bytes None)
    → (avp_of head bytes None >>= λ avp. Ok (with_bytes at avp)) ≡ r → line_added d l at ≡ in_line d l (Leaf head bytes None) r
leaf_line d l at head bytes r is made =
    bound (line_of d l) (Leaf head bytes None) (λ line. in_line d l line (added at line)) (in_line d l (Leaf head bytes None) r) is (ap (in_line d l (Leaf head bytes None)) made)

close_line : (d : Dictionary) (l : List ℕ) (at : Level) (head : Head) (bytes : List ℕ) (r : Result Level Kind) → line_of d l ≡ Ok (Close None)
    → (avp_of head bytes None >>= λ avp. Ok (with_bytes at avp)) ≡ r → line_added d l (inside at head bytes) ≡ in_line d l (Close None) r
close_line d l at head bytes r is made =
    bound (line_of d l) (Close None) (λ line. in_line d l line (added (inside at head bytes) line)) (in_line d l (Close None) r) is (ap (in_line d l (Close None)) made)

appended : (at : Level) (head : Head) (bytes avp : List ℕ) → avp_of head bytes None ≡ Ok avp → (avp_of head bytes None >>= λ x. Ok (with_bytes at x)) ≡ Ok (with_bytes at avp)
appended at head bytes avp is = bound (avp_of head bytes None) avp (λ x. Ok (with_bytes at x)) (Ok (with_bytes at avp)) is refl

-- ---- what the lines of a level add

-- AVPs of these keys, which fit, as the bytes of a level
pub record IsAdded (d : Dictionary) (u : Unknown) (keys : List Key) (bytes : List ℕ) : Type 0 where
  pub avps : List PlainAvp
  pub spelled : SpellsAll avps bytes
  pub keyed : map key_of avps ≡ keys
  pub depth : ℕ
  pub fit : AllByRecursion (Fits d u depth) avps

nothing_added : (d : Dictionary) (u : Unknown) (keys : List Key) → keys ≡ [] → IsAdded d u keys []
nothing_added d u keys none = record { avps = []; spelled = refl; keyed = sym none; depth = 0; fit = tt }

avp_added : (d : Dictionary) (u : Unknown) (keys others : List Key) (head : Head) (bytes front rest : List ℕ) (n : ℕ) → Spells (drawn head bytes) front → Fits d u n (drawn head bytes)
    → keys ≡ key_at head ∷ others → IsAdded d u others rest → IsAdded d u keys (front ++ rest)
avp_added d u keys others head bytes front rest n s fits is_keys a = record {
  avps = drawn head bytes ∷ a.avps;
  spelled = (front, rest, s, refl, a.spelled);
  keyed = ap (λ (ks : List Key). key_at head ∷ ks) a.keyed ∙ sym is_keys;
  depth = n + a.depth;
  fit = all_fit d u n a.depth (drawn head bytes) a.avps fits a.fit;
}

-- the lines were read up to these, and added these bytes
pub record GoesOn (d : Dictionary) (u : Unknown) (h : Header) (keys : List Key) (whole : Result (List ℕ) Fault) (after : List (List ℕ)) (at : Level) : Type 0 where
  pub bytes : List ℕ
  pub added : IsAdded d u keys bytes
  pub line : ℕ
  pub rest : whole ≡ body_from d h line after (with_bytes at bytes)

abbrev Reads : Dictionary → Unknown → Header → List Key → Result (List ℕ) Fault → List (List ℕ) → Level → Type 0
Reads d u h keys whole after at = IsLong whole ⊎ GoesOn d u h keys whole after at

-- what follows an AVP whose bytes were added
after_avp : (d : Dictionary) (u : Unknown) (h : Header) (keys others : List Key) (whole more : Result (List ℕ) Fault) (after : List (List ℕ)) (at : Level) (head : Head) (bytes front : List ℕ) (n : ℕ)
    → Spells (drawn head bytes) front → Fits d u n (drawn head bytes) → keys ≡ key_at head ∷ others → whole ≡ more → Reads d u h others more after (with_bytes at front) → Reads d u h keys whole after at
after_avp d u h keys others whole more after at head bytes front n s fits is_keys is (inl long) = inl (subst IsLong (sym is) long)
after_avp d u h keys others whole more after at head bytes front n s fits is_keys is (inr r) = inr (record {
  bytes = front ++ r.bytes;
  added = avp_added d u keys others head bytes front r.bytes n s fits is_keys r.added;
  line = r.line;
  rest = is ∙ r.rest ∙ ap (λ (t : List ℕ). body_from d h r.line after (record { outer = at.outer; bytes = t })) (append_assoc at.bytes front r.bytes);
})

leaf_read : (d : Dictionary) (u : Unknown) (h : Header) (keys others : List Key) (l : List ℕ) (more : List (List ℕ)) (head : Head) (e : DictEntry) (bytes : List ℕ) → line_of d l ≡ Ok (Leaf head bytes None)
    → IsOwn d head e → CodeFits head.code → e.group ≡ None → IsLeaf e.format bytes → keys ≡ key_at head ∷ others → (n : ℕ) (at : Level) (after : List (List ℕ))
    → Reads d u h others (body_from d h (n + 1) (more ++ after) (with_bytes at (bytes_drawn head bytes))) after (with_bytes at (bytes_drawn head bytes))
    → Reads d u h keys (body_from d h n (l ∷ (more ++ after)) at) after at
leaf_read d u h keys others l more head e bytes is_leaf own code none fits is_keys n at after next = by (added_or_long d head e bytes own code)
  where
    by : (avp_of head bytes None ≡ Err Limit) ⊎ ((avp_of head bytes None ≡ Ok (bytes_drawn head bytes)) × Spells (drawn head bytes) (bytes_drawn head bytes))
        → Reads d u h keys (body_from d h n (l ∷ (more ++ after)) at) after at
    by (inl long) = inl (too_long d h n l (more ++ after) at (value_misfit d l Limit) refl
        (leaf_line d l at head bytes (Err Limit) is_leaf (bad (avp_of head bytes None) Limit (λ avp. Ok (with_bytes at avp)) long)))
    by (inr (is, s)) = after_avp d u h keys others (body_from d h n (l ∷ (more ++ after)) at) _ after at head bytes (bytes_drawn head bytes) 0 s (leaf_fits d u head e bytes own none fits) is_keys
        (goes_on d h n l (more ++ after) at (with_bytes at (bytes_drawn head bytes)) (leaf_line d l at head bytes (Ok (with_bytes at (bytes_drawn head bytes))) is_leaf (appended at head bytes (bytes_drawn head bytes) is))) next

group_read : (d : Dictionary) (u : Unknown) (h : Header) (keys members others : List Key) (close : List ℕ) (more : List (List ℕ)) (head : Head) (e : DictEntry) (x : PlainDefinition)
    → line_of d close ≡ Ok (Close None) → IsOwn d head e → CodeFits head.code → e.group ≡ Some x → Placed x.rules members → keys ≡ key_at head ∷ others → (at : Level) (after : List (List ℕ)) (whole : Result (List ℕ) Fault)
    → Reads d u h members whole (close ∷ (more ++ after)) (opened at head)
    → ((m : ℕ) (bytes : List ℕ) → Reads d u h others (body_from d h m (more ++ after) (with_bytes at (bytes_drawn head bytes))) after (with_bytes at (bytes_drawn head bytes)))
    → Reads d u h keys whole after at
group_read d u h keys members others close more head e x is_close own code is_group placed is_keys at after whole (inl long) next = inl long
group_read d u h keys members others close more head e x is_close own code is_group placed is_keys at after whole (inr r) next = by (added_or_long d head e r.bytes own code)
  where
    level : IsLevel (Fits d u r.added.depth) x.rules r.bytes
    level = (r.added.avps, r.added.spelled, subst (Placed x.rules) (sym r.added.keyed) placed, r.added.fit)

    by : (avp_of head r.bytes None ≡ Err Limit) ⊎ ((avp_of head r.bytes None ≡ Ok (bytes_drawn head r.bytes)) × Spells (drawn head r.bytes) (bytes_drawn head r.bytes)) → Reads d u h keys whole after at
    by (inl long) = inl (subst IsLong (sym r.rest) (too_long d h r.line close (more ++ after) (inside at head r.bytes) (misfit close (brace_wanted Limit) Limit) refl
        (close_line d close at head r.bytes (Err Limit) is_close (bad (avp_of head r.bytes None) Limit (λ avp. Ok (with_bytes at avp)) long))))
    by (inr (is, s)) = after_avp d u h keys others whole _ after at head r.bytes (bytes_drawn head r.bytes) (suc r.added.depth) s (group_fits d u r.added.depth head e x r.bytes own is_group level) is_keys
        (r.rest ∙ goes_on d h r.line close (more ++ after) (inside at head r.bytes) (with_bytes at (bytes_drawn head r.bytes))
        (close_line d close at head r.bytes (Ok (with_bytes at (bytes_drawn head r.bytes))) is_close (appended at head r.bytes (bytes_drawn head r.bytes) is))) (next (r.line + 1) r.bytes)

level_read : (d : Dictionary) (u : Unknown) (h : Header) → NumbersFit d → (ls : List (List ℕ)) (keys : List Key) → IsValidLevel d ls keys → (n : ℕ) (at : Level) (after : List (List ℕ))
    → Reads d u h keys (body_from d h n (ls ++ after) at) after at
level_read d u h fit ls keys (end none no_keys) n at after = inr (record {
  bytes = [];
  added = nothing_added d u keys no_keys;
  line = n;
  rest = ap (λ (xs : List (List ℕ)). body_from d h n (xs ++ after) at) none ∙ ap (λ (t : List ℕ). body_from d h n after (record { outer = at.outer; bytes = t })) (sym (append-nil at.bytes));
})
level_read d u h fit ls keys (blank l more is_blank rest parts) n at after =
    subst (λ (xs : List (List ℕ)). Reads d u h keys (body_from d h n (xs ++ after) at) after at) (sym parts)
    (subst (λ (r : Result (List ℕ) Fault). Reads d u h keys r after at)
    (sym (goes_on d h n l (more ++ after) at at (bound (line_of d l) Blank (λ line. in_line d l line (added at line)) (Ok at) is_blank refl)))
    (level_read d u h fit more keys rest (n + 1) at after))
level_read d u h fit ls keys (leaf l more head e bytes others is_leaf own none fits rest parts is_keys) n at after =
    subst (λ (xs : List (List ℕ)). Reads d u h keys (body_from d h n (xs ++ after) at) after at) (sym parts)
    (leaf_read d u h keys others l more head e bytes is_leaf own (read_fits d l (Leaf head bytes None) fit is_leaf) none fits is_keys n at after
    (level_read d u h fit more others rest (n + 1) (with_bytes at (bytes_drawn head bytes)) after))
level_read d u h fit ls keys (group l close inner more head e x members others is_open own is_group level placed is_close rest parts is_keys) n at after =
    subst (λ (xs : List (List ℕ)). Reads d u h keys (body_from d h n (xs ++ after) at) after at) (sym parts)
    (subst (λ (xs : List (List ℕ)). Reads d u h keys (body_from d h n (l ∷ xs) at) after at) (sym (append_assoc inner (close ∷ more) after))
    (subst (λ (r : Result (List ℕ) Fault). Reads d u h keys r after at)
    (sym (goes_on d h n l (inner ++ (close ∷ (more ++ after))) at (opened at head) (bound (line_of d l) (Open head) (λ line. in_line d l line (added at line)) (Ok (opened at head)) is_open refl)))
    (group_read d u h keys members others close more head e x is_close own (read_fits d l (Open head) fit is_open) is_group placed is_keys at after (body_from d h (n + 1) (inner ++ (close ∷ (more ++ after))) (opened at head))
    (level_read d u h fit inner members level (n + 1) (opened at head) (close ∷ (more ++ after))) (λ m bytes. level_read d u h fit more others rest m (with_bytes at (bytes_drawn head bytes)) after))))

-- ---- messages

head_is : (h : Header) (n : ℕ) → HasFields h → n < 2 ^ 24 → IsHead h n (header_bytes h n)
head_is h n fields small = header_spelled h n small fields.code (four h.app fields.app) (four h.hop fields.hop) (four h.e2e fields.e2e)

-- the end of a message whose AVPs were read
finished_valid : (d : Dictionary) (u : Unknown) (h : Header) (command : PlainDefinition) (keys : List Key) (bytes : List ℕ) (n : ℕ) → HasFields h → IsHeaderOf d h command → Placed command.rules keys
    → IsAdded d u keys bytes → IsValidOrLong d u (finished h [] bytes n)
finished_valid d u h command keys bytes n fields head placed a = by (nat_lt (20 + length bytes) (2 ^ 24)) refl
  where
    whole : List ℕ
    whole = header_bytes h (20 + length bytes) ++ bytes

    by : (b : Bool) → nat_lt (20 + length bytes) (2 ^ 24) ≡ b → IsValidOrLong d u (if b then Ok whole else Err (fault_at n Limit ShorterMessage))
    by false e = refl
    by true e = (
      head.number,
      record {
        header = h;
        avps = a.avps;
        command = command;
        message = record {
          head = header_bytes h (20 + length bytes);
          body = bytes;
          parts = refl;
          is_head = subst (λ (k : ℕ). IsHead h k (header_bytes h (20 + length bytes))) (sym (length-append (header_bytes h (20 + length bytes)) bytes))
              (head_is h (20 + length bytes) fields (ltb-true (20 + length bytes) (2 ^ 24) e));
          is_body = a.spelled;
        };
        no_error_request = head.no_error_request;
        no_repeated_answer = head.no_repeated_answer;
        select = head.select;
        is_command = head.is_command;
        proxiable = head.proxiable;
        placed = subst (Placed command.rules) (sym a.keyed) placed;
        fit = (a.depth, a.fit);
      },
    )

body_valid : (d : Dictionary) (u : Unknown) (h : Header) (command : PlainDefinition) (keys : List Key) (ls : List (List ℕ)) (n : ℕ) → HasFields h → IsHeaderOf d h command → Placed command.rules keys
    → Reads d u h keys (body_from d h n (ls ++ []) no_level) [] no_level → IsValidOrLong d u (body_from d h n ls no_level)
body_valid d u h command keys ls n fields head placed reads =
    subst (λ (xs : List (List ℕ)). IsValidOrLong d u (body_from d h n xs no_level)) (append-nil ls) (by (body_from d h n (ls ++ []) no_level) reads)
  where
    by : (whole : Result (List ℕ) Fault) → Reads d u h keys whole [] no_level → IsValidOrLong d u whole
    by (Ok bytes) (inl long) = absurd long
    by (Err fault) (inl long) = long
    by whole (inr r) = subst (IsValidOrLong d u) (sym r.rest) (finished_valid d u h command keys r.bytes r.line fields head placed r.added)

first_line : (d : Dictionary) (before : List (List ℕ)) (n : ℕ) (first : List ℕ) (body : List (List ℕ)) (h : Header) → AllByRecursion (λ l. header_of d l ≡ Ok None) before → header_of d first ≡ Ok (Some h)
    → (m : ℕ) × (message_from d n (before ++ (first ∷ body)) ≡ body_from d h m body no_level)
first_line d [] n first body h all is = (n + 1, ap (λ (r : Result (Option Header) Misfit). begin r first (n + 1) (message_from d (n + 1) body) (λ header. body_from d header (n + 1) body no_level)) is)
first_line d (l ∷ before) n first body h (none, all) is =
    let next = first_line d before (n + 1) first body h all is in
    (next.0, ap (λ (r : Result (Option Header) Misfit). begin r l (n + 1) (message_from d (n + 1) (before ++ (first ∷ body))) (λ header. body_from d header (n + 1) (before ++ (first ∷ body)) no_level)) none ∙ next.1)

pub text_valid : (d : Dictionary) (text : List ℕ) → NumbersFit d → IsValidText d text → (u : Unknown) → IsValidOrLong d u (made d text)
text_valid d text fit t u =
    let begins = first_line d t.before 0 t.first t.body t.header t.blanks t.is_first in
    subst (IsValidOrLong d u) (sym (ap (message_from d 0) t.parts ∙ begins.1))
    (body_valid d u t.header t.command t.keys t.body begins.0 (header_read d t.first t.header fit t.is_first) t.is_header t.placed (level_read d u t.header fit t.body t.keys t.level begins.0 no_level []))
