-- Texts that are read as tokens of a class of the grammar.
use Rattle.std.proofs.Common.{◌≡◌, ℕ, ◌<◌, ◌≤◌, ◌^◌, true, false, List, [], ◌∷◌, ◌++◌, map, codes, refl, sym, ap, subst, ◌∙◌, append_assoc}
use Rattle.std.specs.List.{flat_map}
use Rattle.std.specs.Char.{to_ascii_lowercase}
use Rattle.std.specs.Fmt.{decimal}
use Rattle.dia_ccf.specs.Names.{is_name_run}
use Rattle.dia_ccf.specs.Tokens.{Token, Number, Name}
use Rattle.dia_ccf.specs.Grammar.{Tokens, ◌then◌, nothing, word, keyword, number, each}
use Rattle.dia_ccf.proofs.TokensOfTexts.{lexed, starts_run, lexed-decimal, lexed-name}

-- what may follow a text: anything, or no byte of a run
abbrev pub Anything : List ℕ → Type 0
Anything rest = Unit {0}

abbrev pub NoRun : List ℕ → Type 0
NoRun rest = starts_run rest ≡ false

-- the text is read as tokens of the class, where what follows is as it may be
pub record Reads (May : List ℕ → Type 0) (class : Tokens) (text : List ℕ) : Type 0 where
  pub tokens : List Token
  pub derived : class tokens
  pub read : (rest : List ℕ) → May rest → lexed 0 (text ++ rest) ≡ tokens ++ lexed 0 rest

pub reads_then : {May MayToo : List ℕ → Type 0} {first second : Tokens} {a b : List ℕ} → Reads May first a → Reads MayToo second b
    → ((rest : List ℕ) → MayToo rest → May (b ++ rest)) → Reads MayToo (first then second) (a ++ b)
reads_then {a = a} {b = b} p q follows = record {
  tokens = p.tokens ++ q.tokens;
  derived = (p.tokens, q.tokens, refl, p.derived, q.derived);
  read = λ rest may.
      ap (lexed 0) (append_assoc a b rest)
      ∙ p.read (b ++ rest) (follows rest may)
      ∙ ap (λ ts. p.tokens ++ ts) (q.read rest may)
      ∙ sym (append_assoc p.tokens q.tokens (lexed 0 rest));
}

-- white space before or after
pub reads_after_space : {May : List ℕ → Type 0} {class : Tokens} {a : List ℕ} → Reads May class a → Reads May class (32 ∷ a)
reads_after_space p = record { tokens = p.tokens; derived = p.derived; read = p.read }

pub reads_after_feed : {May : List ℕ → Type 0} {class : Tokens} {a : List ℕ} → Reads May class a → Reads May class (10 ∷ a)
reads_after_feed p = record { tokens = p.tokens; derived = p.derived; read = p.read }

pub reads_before_space : {class : Tokens} {a : List ℕ} → Reads NoRun class a → Reads Anything class (a ++ codes " ")
reads_before_space {a = a} p = record {
  tokens = p.tokens;
  derived = p.derived;
  read = λ rest may. ap (lexed 0) (append_assoc a (codes " ") rest) ∙ p.read (32 ∷ rest) refl;
}

pub reads_before_feed : {class : Tokens} {a : List ℕ} → Reads NoRun class a → Reads Anything class (a ++ (10 ∷ []))
reads_before_feed {a = a} p = record {
  tokens = p.tokens;
  derived = p.derived;
  read = λ rest may. ap (lexed 0) (append_assoc a (10 ∷ []) rest) ∙ p.read (10 ∷ rest) refl;
}

-- less may follow, or more tokens are of the class
pub reads_narrower : {May : List ℕ → Type 0} {class : Tokens} {a : List ℕ} → Reads Anything class a → Reads May class a
reads_narrower p = record { tokens = p.tokens; derived = p.derived; read = λ rest may. p.read rest tt }

pub reads_wider : {May : List ℕ → Type 0} {class : Tokens} {a : List ℕ} (wider : Tokens) → ((ts : List Token) → class ts → wider ts) → Reads May class a → Reads May wider a
reads_wider wider f p = record { tokens = p.tokens; derived = f p.tokens p.derived; read = p.read }

-- a text that is put together otherwise
pub reads_same : {May : List ℕ → Type 0} {class : Tokens} {a : List ℕ} (b : List ℕ) → b ≡ a → Reads May class a → Reads May class b
reads_same {May} {class} b e p = subst (λ text. Reads May class text) (sym e) p

pub reads_number : (most n : ℕ) → n ≤ most → n < 2 ^ 64 → Reads NoRun (number most n) (decimal n)
reads_number most n low fits = record { tokens = Number n ∷ []; derived = (low, refl); read = λ rest ends. lexed-decimal n rest fits ends }

pub reads_word : (text : List ℕ) → is_name_run text ≡ true → Reads NoRun (word text) text
reads_word text named = record { tokens = Name text ∷ []; derived = refl; read = λ rest ends. lexed-name text rest named ends }

pub reads_keyword : (text spelled : List ℕ) → map to_ascii_lowercase spelled ≡ text → is_name_run spelled ≡ true → Reads NoRun (keyword text) spelled
reads_keyword text spelled same named = record { tokens = Name spelled ∷ []; derived = (spelled, same, refl); read = λ rest ends. lexed-name spelled rest named ends }

pub reads_nothing : {May : List ℕ → Type 0} → Reads May nothing []
reads_nothing = record { tokens = []; derived = refl; read = λ rest may. refl }

-- ---- lists

pub reads_each : {X Y Z : Type 0} (class : Y → Tokens) (text : Z → List ℕ) (f : X → Y) (g : X → Z) → ((x : X) → Reads Anything (class (f x)) (text (g x)))
    → (xs : List X) → Reads Anything (each class (map f xs)) (flat_map text (map g xs))
reads_each class text f g all [] = record { tokens = []; derived = refl; read = λ rest may. refl }
reads_each class text f g all (x ∷ xs) = reads_then (all x) (reads_each class text f g all xs) (λ rest may. tt)

each-append : {X : Type 0} (class : X → Tokens) (xs ys : List X) (ts us : List Token) → each class xs ts → each class ys us → each class (xs ++ ys) (ts ++ us)
each-append class [] ys ts us first second = rw first second
each-append class (x ∷ xs) ys ts us first second =
    (first.0, first.1 ++ us, ap (λ l. l ++ us) first.2 ∙ append_assoc first.0 first.1 us, first.3, each-append class xs ys first.1 us first.4 second)

pub reads_each-append : {X : Type 0} (class : X → Tokens) (xs ys : List X) {a b : List ℕ} → Reads Anything (each class xs) a
    → Reads Anything (each class ys) b → Reads Anything (each class (xs ++ ys)) (a ++ b)
reads_each-append class xs ys {a = a} {b = b} p q = record {
  tokens = p.tokens ++ q.tokens;
  derived = each-append class xs ys p.tokens q.tokens p.derived q.derived;
  read = λ rest may.
      ap (lexed 0) (append_assoc a b rest)
      ∙ p.read (b ++ rest) tt
      ∙ ap (λ ts. p.tokens ++ ts) (q.read rest tt)
      ∙ sym (append_assoc p.tokens q.tokens (lexed 0 rest));
}
