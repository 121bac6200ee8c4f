-- What a test of one token says of the token.
use Rattle.std.proofs.Common.{◌≡◌, ℕ, ◌≤◌, Bool, true, false, cond, List, [], ◌∷◌, map, Option, Some, None, refl, sym, ap, subst, ◌∙◌, inl, inr, ◌⊎◌, ⊎_elim}
use Rattle.std.specs.Prelude.{nat_le, codes, ◌&&◌, ⊤}
use Rattle.std.specs.List.{find}
use Rattle.std.specs.Option.{option_map}
use Rattle.std.specs.Char.{to_ascii_lowercase}
use Rattle.std.proofs.lemmas.Bool.{leb-true}
use lib.Pointwise.{bytes_decides}
use Rattle.dia_terms.specs.declared.FormatName.{FormatName}
use Rattle.dia_terms.specs.declared.MRule.{MRule}
use Rattle.dia_terms.specs.declared.MRule.TheVariants.{Must, MustNot, Any}
use Rattle.dia_ccf.specs.Names.{is_name, same_bytes}
use Rattle.dia_ccf.specs.Tokens.{Token, Less, Greater, Open_brace, Close_brace, Open_bracket, Close_bracket, Open_parenthesis}
use Rattle.dia_ccf.specs.Tokens.{Close_parenthesis, Star, Comma, Dots, Assign, Colon, Declares, Number, Name}
use Rattle.dia_terms.specs.Formats.{format_word}
use Rattle.dia_ccf.specs.Grammar.{rule_word}
use Rattle.dia_ccf.specs.Machine.{same_sign, is_word, is_keyword, sign_at, keyword_at, number_at, name_at, format_at, rule_at, rule_named, slot_at}
use Rattle.dia_terms.specs.Formats.{formats, format_named}

-- ---- tests and options

pub both : (a b : Bool) → (a && b) ≡ true → (a ≡ true) × (b ≡ true)
both true b h = (refl, h)
both false b h = absurd cc

pub chosen : {X : Type 0} (b : Bool) (x y z : X) → cond b x y ≡ z → ((b ≡ true) × (x ≡ z)) ⊎ ((b ≡ false) × (y ≡ z))
chosen true x y z h = inl (refl, h)
chosen false x y z h = inr (refl, h)

pub mapped : {X Y : Type 0} (f : X → Y) (o : Option X) (y : Y) → option_map f o ≡ Some y → (x : X) × (o ≡ Some x) × (f x ≡ y)
mapped f None y h = absurd cc
mapped f (Some x) y h = (x, refl, cc)

pub some_is : {X : Type 0} (x y : X) → ◌≡◌ {A = Option X} (Some x) (Some y) → x ≡ y
some_is x y h = cc

pub guarded : {X : Type 0} (b : Bool) (x y : X) → cond b (Some x) None ≡ Some y → (b ≡ true) × (x ≡ y)
guarded true x y h = (refl, cc)
guarded false x y h = absurd cc

-- ---- bytes

pub same_bytes-is : (a b : List ℕ) → same_bytes a b ≡ true → a ≡ b
same_bytes-is a b = (bytes_decides a b).0

pub same_bytes-refl : (a : List ℕ) → same_bytes a a ≡ true
same_bytes-refl a = (bytes_decides a a).1 refl

-- ---- tokens

pub same_sign-is : (a b : Token) → same_sign a b ≡ true → a ≡ b
same_sign-is Less Less h = refl
same_sign-is Greater Greater h = refl
same_sign-is Open_brace Open_brace h = refl
same_sign-is Close_brace Close_brace h = refl
same_sign-is Open_bracket Open_bracket h = refl
same_sign-is Close_bracket Close_bracket h = refl
same_sign-is Open_parenthesis Open_parenthesis h = refl
same_sign-is Close_parenthesis Close_parenthesis h = refl
same_sign-is Star Star h = refl
same_sign-is Comma Comma h = refl
same_sign-is Dots Dots h = refl
same_sign-is Assign Assign h = refl
same_sign-is Colon Colon h = refl
same_sign-is Declares Declares h = refl
same_sign-is a b h = absurd cc

pub sign_at-is : (sign token : Token) (u : Unit {0}) → sign_at sign token ≡ Some u → token ≡ sign
sign_at-is sign token u h = sym (same_sign-is sign token (guarded (same_sign sign token) tt u h).0)

pub name_at-is : (token : Token) (text : List ℕ) → name_at token ≡ Some text → (token ≡ Name text) × (is_name text ≡ true)
name_at-is (Name name) text h = let k = guarded (is_name name) name text h in (ap Name k.1, subst (λ (n : List ℕ). is_name n ≡ true) k.1 k.0)
name_at-is token text h = absurd cc

pub number_at-is : (least most : ℕ) (token : Token) (n : ℕ) → number_at least most token ≡ Some n → (token ≡ Number n) × (least ≤ n) × (n ≤ most)
number_at-is least most (Number m) n h =
    let k = guarded (nat_le least m && nat_le m most) m n h in
    let b = both (nat_le least m) (nat_le m most) k.0 in
    (ap Number k.1, subst (λ (x : ℕ). least ≤ x) k.1 (leb-true least m b.0), subst (λ (x : ℕ). x ≤ most) k.1 (leb-true m most b.1))
number_at-is least most token n h = absurd cc

pub keyword-is : (text : List ℕ) (token : Token) → is_keyword text token ≡ true → (spelled : List ℕ) × (map to_ascii_lowercase spelled ≡ text) × (token ≡ Name spelled)
keyword-is text (Name spelled) h = (spelled, same_bytes-is (map to_ascii_lowercase spelled) text h, refl)
keyword-is text token h = absurd cc

pub keyword_at-is : (text : List ℕ) (token : Token) (u : Unit {0}) → keyword_at text token ≡ Some u → (spelled : List ℕ) × (map to_ascii_lowercase spelled ≡ text) × (token ≡ Name spelled)
keyword_at-is text token u h = keyword-is text token (guarded (is_keyword text token) tt u h).0

pub word-is : (text : List ℕ) (token : Token) → is_word text token ≡ true → token ≡ Name text
word-is text (Name name) h = ap Name (same_bytes-is name text h)
word-is text token h = absurd cc

-- one test of a chain: the word is the one tested for, or the rest of the chain answers
first_word : {X : Type 0} (spelled : X → List ℕ) (word : List ℕ) (x : X) (rest : Option X) (y : X)
    → cond (same_bytes word (spelled x)) (Some x) rest ≡ Some y → (rest ≡ Some y → word ≡ spelled y) → word ≡ spelled y
first_word spelled word x rest y h go = by_test (same_bytes word (spelled x)) refl h
  where
    by_test : (b : Bool) → same_bytes word (spelled x) ≡ b → cond b (Some x) rest ≡ Some y → word ≡ spelled y
    by_test true e k = same_bytes-is word (spelled x) e ∙ ap spelled (cc)
    by_test false e k = go k

found_word : {X : Type 0} (spelled : X → List ℕ) (word : List ℕ) (xs : List X) (y : X) → find (λ x. same_bytes word (spelled x)) xs ≡ Some y → word ≡ spelled y
found_word spelled word [] y h = absurd cc
found_word spelled word (x ∷ xs) y h = first_word spelled word x (find (λ x. same_bytes word (spelled x)) xs) y h (λ h. found_word spelled word xs y h)

rule_named-is : (word : List ℕ) (r : MRule) → rule_named word ≡ Some r → word ≡ rule_word r
rule_named-is word r h = found_word rule_word word (Must ∷ MustNot ∷ Any ∷ []) r h

pub rule_at-is : (token : Token) (r : MRule) → rule_at token ≡ Some r → token ≡ Name (rule_word r)
rule_at-is (Name word) r h = ap Name (rule_named-is word r h)
rule_at-is token r h = absurd cc

format_named-is : (word : List ℕ) (f : FormatName) → format_named word ≡ Some f → word ≡ format_word f
format_named-is word f h = found_word format_word word formats f h

pub format_at-is : (token : Token) (f : FormatName) → format_at token ≡ Some f → token ≡ Name (format_word f)
format_at-is (Name word) f h = ap Name (format_named-is word f h)
format_at-is token f h = absurd cc

pub rule_named-word : (r : MRule) → rule_named (rule_word r) ≡ Some r
rule_named-word Must = refl
rule_named-word MustNot = refl
rule_named-word Any = refl

-- the token in a rule that is not fixed
abbrev pub slot_tokens : Option (List ℕ) → List Token
slot_tokens None = Name (codes "AVP") ∷ []
slot_tokens (Some text) = Name text ∷ []

abbrev pub Is_slot : Option (List ℕ) → Type 0
Is_slot None = ⊤
Is_slot (Some text) = is_name text ≡ true

pub slot_at-is : (t : Token) (x : Option (List ℕ)) → slot_at t ≡ Some x → (t ∷ [] ≡ slot_tokens x) × Is_slot x
slot_at-is t x h =
    ⊎_elim (λ (e, k). wild x (some_is None x k) (word-is (codes "AVP") t e))
    (λ (e, k). (let m = mapped (λ text. Some text) (name_at t) x k in let n = name_at-is t m.0 m.1 in known m.0 x m.2 n.0 n.1))
    (chosen (is_word (codes "AVP") t) (Some None) (option_map (λ text. Some text) (name_at t)) (Some x) h)
  where
    wild : (x : Option (List ℕ)) → ◌≡◌ {A = Option (List ℕ)} None x → t ≡ Name (codes "AVP") → (t ∷ [] ≡ slot_tokens x) × Is_slot x
    wild None e k = (ap (λ (u : Token). u ∷ []) k, tt)
    wild (Some text) e k = absurd cc

    known : (text : List ℕ) (x : Option (List ℕ)) → Some text ≡ x → t ≡ Name text → is_name text ≡ true → (t ∷ [] ≡ slot_tokens x) × Is_slot x
    known text None e k n = absurd cc
    known text (Some other) e k n = let same = some_is text other e in (ap (λ (u : Token). u ∷ []) (k ∙ ap Name same), subst (λ (w : List ℕ). is_name w ≡ true) same n)
