-- The lines of a text, one after the other.
use Rattle.std.proofs.Common.{◌≡◌, ℕ, add-one, ◌+◌, ◌<◌, ◌≤◌, Bool, true, List, ◌∷◌, length, map, get_or, drop, drop-cons, Bor, Some, None, Result, Ok, Err, refl, sym, ap, subst, ◌∙◌, arith}
use Rattle.std.specs.Prelude.{if◌then◌else◌}
use Rattle.std.specs.List.{slice_split}
use Rattle.std.proofs.lemmas.List.{drop_all, length-map, get_or-map}
use Rattle.dia_wire.specs.declared.Header.{Header}
use Rattle.dia_book.specs.Dictionary.{Dictionary}
use Rattle.dia_text.specs.declared.fault.Misfit.{Misfit}
use Rattle.dia_text.specs.declared.fault.NotRead.{NotRead}
use Rattle.dia_text.specs.declared.fault.NotRead.TheVariants as not_read
use Rattle.dia_text.specs.declared.fault.Wanted.TheVariants.{HeaderLine}
use Rattle.dia_text.specs.declared.fault.Fault.{Fault}
use Rattle.dia_text.specs.declared.fault.NotMade.{NotMade}
use Rattle.dia_text.specs.Reading.{◌>>=◌, FailsAt}
use Rattle.dia_text.specs.Lines.{header_of}
use Rattle.dia_text.specs.Drafts.{Level}
use Rattle.dia_text.specs.declared.fault.Kind.TheVariants.{Syntax}
use Rattle.dia_text.specs.Made.{message_from, body_from, fault_in, placed, Misses, step, finished, line_added}
use Rattle.dia_text.specs.Drafts.{no_level}
use Rattle.dia_text.specs.Made.{lines, is_empty, has_word, fault_at, parts_text, made_lines}

pub bind_fails : {A B : Type 0} (e : NotRead) (r : Result A Misfit) (f : A → Result B Misfit) → FailsAt e r → FailsAt e (r >>= f)
bind_fails not_read.NoMemory r f h = tt
bind_fails (not_read.Misfit m) r f h = rw h refl

front_of : (ls : List (List ℕ)) (i : ℕ) (d : List ℕ) → i < length ls → drop i ls ≡ get_or ls i d ∷ drop (i + 1) ls
front_of ls i d lt = drop-cons ls i d lt ∙ ap (λ (n : ℕ). get_or ls i d ∷ drop n ls) (sym (add-one i))

-- a line and those behind it
pub front : (ls : List (Bor (List ℕ))) (i : ℕ) (d : Bor (List ℕ)) → i < length ls → drop i (map (λ (x : Bor (List ℕ)). x.now) ls) ≡ (get_or ls i d).now ∷ drop (i + 1) (map (λ (x : Bor (List ℕ)). x.now) ls)
front ls i d lt =
    front_of (map (λ (x : Bor (List ℕ)). x.now) ls) i d.now (omega (arith, length-map ls (λ (x : Bor (List ℕ)). x.now)))
    ∙ ap (λ (l : List ℕ). l ∷ drop (i + 1) (map (λ (x : Bor (List ℕ)). x.now) ls)) (get_or-map (λ (x : Bor (List ℕ)). x.now) ls i d d.now lt)

pub within : (ls : List (Bor (List ℕ))) (i : ℕ) → i < length ls → i + 1 ≤ length (map (λ (x : Bor (List ℕ)). x.now) ls)
within ls i lt = omega (arith, length-map ls (λ (x : Bor (List ℕ)). x.now))

pub blank_line : (d : Dictionary) (ls : List (List ℕ)) (i : ℕ) (l : List ℕ) → drop i ls ≡ l ∷ drop (i + 1) ls → header_of d l ≡ Ok None
    → message_from d i (drop i ls) ≡ message_from d (i + 1) (drop (i + 1) ls)
blank_line d ls i l parts blank = ap (message_from d i) parts ∙ rw blank refl

pub header_line : (d : Dictionary) (ls : List (List ℕ)) (i : ℕ) (l : List ℕ) (header : Header) → drop i ls ≡ l ∷ drop (i + 1) ls → header_of d l ≡ Ok (Some header)
    → message_from d i (drop i ls) ≡ body_from d header (i + 1) (drop (i + 1) ls) no_level
header_line d ls i l header parts read = ap (message_from d i) parts ∙ rw read refl

pub no_header_line : (d : Dictionary) (ls : List (List ℕ)) (i : ℕ) (l : List ℕ) (m : Misfit) → drop i ls ≡ l ∷ drop (i + 1) ls → header_of d l ≡ Err m
    → message_from d i (drop i ls) ≡ Err (fault_in l (i + 1) m)
no_header_line d ls i l m parts h = ap (message_from d i) parts ∙ rw h refl

-- what misses one reading misses the same one
pub misses_same : (e : NotMade) (a b : Result (List ℕ) Fault) → a ≡ b → Misses e a → Misses e b
misses_same e a b same h = subst (λ (read : Result (List ℕ) Fault). Misses e read) same h

pub next_line : (d : Dictionary) (header : Header) (ls : List (List ℕ)) (i : ℕ) (l : List ℕ) (level after : Level) → drop i ls ≡ l ∷ drop (i + 1) ls → line_added d l level ≡ Ok after
    → body_from d header i (drop i ls) level ≡ body_from d header (i + 1) (drop (i + 1) ls) after
next_line d header ls i l level after parts read = ap (λ (xs : List (List ℕ)). body_from d header i xs level) parts ∙ ap (λ r. step r l (i + 1) (body_from d header (i + 1) (drop (i + 1) ls))) read

pub bad_line : (d : Dictionary) (header : Header) (ls : List (List ℕ)) (i : ℕ) (l : List ℕ) (level : Level) (e : NotRead) → drop i ls ≡ l ∷ drop (i + 1) ls → FailsAt e (line_added d l level)
    → Misses (placed e l (i + 1)) (body_from d header i (drop i ls) level)
bad_line d header ls i l level not_read.NoMemory parts h = tt
bad_line d header ls i l level (not_read.Misfit m) parts h =
    ap (λ (xs : List (List ℕ)). body_from d header i xs level) parts ∙ ap (λ r. step r l (i + 1) (body_from d header (i + 1) (drop (i + 1) ls))) h

pub last_line : (d : Dictionary) (header : Header) (ls : List (List ℕ)) (i : ℕ) (level : Level) → length ls ≡ i → body_from d header i (drop i ls) level ≡ finished header level.outer level.bytes i
last_line d header ls i level ends = ap (λ (xs : List (List ℕ)). body_from d header i xs level) (drop_all i ls (omega (arith, ends)))

-- several messages, where a line has a word
pub some_word : (d : Dictionary) (text : List ℕ) → has_word (lines text) ≡ true → made_lines d text ≡ parts_text d 0 (slice_split is_empty (lines text))
some_word d text has = ap (λ (b : Bool). if b then parts_text d 0 (slice_split is_empty (lines text)) else Err (fault_at (length (lines text)) Syntax HeaderLine)) has
