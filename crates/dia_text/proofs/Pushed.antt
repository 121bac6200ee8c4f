-- The pieces of a line, added one after the other.
use Rattle.std.proofs.Common.{◌≡◌, ℕ, ◌<◌, ◌&&◌, nat_eq, not, Bool, true, false, List, [], ◌∷◌, ◌++◌, length}
use Rattle.std.proofs.Common.{Option, Some, None, Result, Ok, Err, if◌then◌else◌, codes, refl, sym, ap, ◌∙◌, append_assoc, append-nil, arith}
use Rattle.std.specs.Prelude.{IfSome, OnOk, is_none, is_ok, slice_get}
use Rattle.std.specs.Option.{option_eq}
use Rattle.dia_data.specs.Shown.{hex_byte}
use Rattle.dia_book.specs.Dictionary.{DictEntry}
use Rattle.dia_text.specs.declared.keys.AvpCode.{AvpCode}
use Rattle.dia_text.specs.Keys.{numbered}
use Rattle.dia_text.specs.LineTexts.{code_text, name_or_code, spaced}
use Rattle.dia_text.specs.TextOf.{fed}
use Rattle.dia_text.proofs.SetsOfNames.{get_none}

spaced_both : (a b : List (List ℕ)) → spaced (a ++ b) ≡ spaced a ++ spaced b
spaced_both [] b = refl
spaced_both (w ∷ a) b = ap (λ (t : List ℕ). 32 ∷ (w ++ t)) (spaced_both a b) ∙ ap (λ (t : List ℕ). 32 ∷ t) (sym (append_assoc w (spaced a) (spaced b)))

three_joined : (t a b c : List ℕ) → ((t ++ a) ++ b) ++ c ≡ t ++ (a ++ (b ++ c))
three_joined t a b c = simp append_assoc

four_joined : (t a b c e : List ℕ) → (((t ++ a) ++ b) ++ c) ++ e ≡ t ++ (a ++ (b ++ (c ++ e)))
four_joined t a b c e = simp append_assoc

open_joined : (t w f b z : List ℕ) → ((t ++ w) ++ f) ++ (b ++ z) ≡ t ++ ((w ++ (f ++ b)) ++ z)
open_joined t w f b z = simp append_assoc

leaf_joined : (t w f a v p z : List ℕ) → (((((t ++ w) ++ f) ++ a) ++ v) ++ p) ++ z ≡ t ++ ((w ++ (f ++ (a ++ (v ++ p)))) ++ z)
leaf_joined t w f a v p z = simp append_assoc

-- what the last call of a function adds
pub last_pushed : {X E : Type 0} (r : Result X E) (new more same : List ℕ) → new ≡ (if is_ok r then more else same) → OnOk r (new ≡ more)
last_pushed (Ok x) new more same is = is
last_pushed (Err e) new more same is = tt

-- a blank, a word, a blank and another
pub words_pushed : (t t1 t2 t3 t4 k n : List ℕ) → t1 ≡ t ++ (32 ∷ []) → t2 ≡ t1 ++ k → t3 ≡ t2 ++ (32 ∷ []) → t4 ≡ t3 ++ n → t4 ≡ t ++ spaced (k ∷ n ∷ [])
words_pushed t t1 t2 t3 t4 k n e1 e2 e3 e4 =
    e4 ∙ ap (λ (x : List ℕ). x ++ n) (e3 ∙ ap (λ (x : List ℕ). x ++ (32 ∷ [])) (e2 ∙ ap (λ (x : List ℕ). x ++ k) e1)) ∙ four_joined t (32 ∷ []) k (32 ∷ []) n
    ∙ ap (λ (x : List ℕ). t ++ (32 ∷ (k ++ (32 ∷ x)))) (sym (append-nil n))

pub pad_pushed : (t t1 t2 n : List ℕ) → t1 ≡ t ++ codes " pad " → t2 ≡ t1 ++ n → t2 ≡ t ++ spaced (codes "pad" ∷ n ∷ [])
pad_pushed t t1 t2 n e1 e2 =
    e2 ∙ ap (λ (x : List ℕ). x ++ n) e1 ∙ append_assoc t (codes " pad ") n ∙ ap (λ (x : List ℕ). t ++ (codes " pad " ++ x)) (sym (append-nil n))

pub fields_pushed : (t t1 t2 t3 t4 : List ℕ) (a b c e : List (List ℕ)) → t1 ≡ t ++ spaced a → t2 ≡ t1 ++ spaced b → t3 ≡ t2 ++ spaced c → t4 ≡ t3 ++ spaced e
    → t4 ≡ t ++ spaced (a ++ (b ++ (c ++ e)))
fields_pushed t t1 t2 t3 t4 a b c e e1 e2 e3 e4 =
    e4 ∙ ap (λ (x : List ℕ). x ++ spaced e) (e3 ∙ ap (λ (x : List ℕ). x ++ spaced c) (e2 ∙ ap (λ (x : List ℕ). x ++ spaced b) e1)) ∙ four_joined t (spaced a) (spaced b) (spaced c) (spaced e)
    ∙ ap (λ (x : List ℕ). t ++ (spaced a ++ (spaced b ++ x))) (sym (spaced_both c e)) ∙ ap (λ (x : List ℕ). t ++ (spaced a ++ x)) (sym (spaced_both b (c ++ e)))
    ∙ ap (λ (x : List ℕ). t ++ x) (sym (spaced_both a (b ++ (c ++ e))))

pub code_pushed : (t t1 t2 t3 n : List ℕ) (ws : List (List ℕ)) → t1 ≡ t ++ codes "code " → t2 ≡ t1 ++ n → t3 ≡ t2 ++ spaced ws → t3 ≡ t ++ (codes "code" ++ spaced (n ∷ ws))
code_pushed t t1 t2 t3 n ws e1 e2 e3 =
    e3 ∙ ap (λ (x : List ℕ). x ++ spaced ws) (e2 ∙ ap (λ (x : List ℕ). x ++ n) e1) ∙ three_joined t (codes "code ") n (spaced ws)

pub open_pushed : (t t1 t2 w : List ℕ) (fs : List (List ℕ)) → t1 ≡ (t ++ w) ++ spaced fs → t2 ≡ t1 ++ codes " {\n" → t2 ≡ t ++ fed (w ++ spaced (fs ++ (codes "{" ∷ [])))
open_pushed t t1 t2 w fs e1 e2 =
    e2 ∙ ap (λ (x : List ℕ). x ++ codes " {\n") e1 ∙ open_joined t w (spaced fs) (codes " {") (10 ∷ [])
    ∙ ap (λ (x : List ℕ). t ++ fed (w ++ x)) (sym (spaced_both fs (codes "{" ∷ [])))

pub leaf_pushed : (t t1 t2 t3 t4 t5 w v : List ℕ) (fs ps : List (List ℕ)) → t1 ≡ (t ++ w) ++ spaced fs → t2 ≡ t1 ++ (32 ∷ []) → t3 ≡ t2 ++ v → t4 ≡ t3 ++ spaced ps → t5 ≡ t4 ++ (10 ∷ [])
    → t5 ≡ t ++ fed (w ++ spaced (fs ++ (v ∷ ps)))
leaf_pushed t t1 t2 t3 t4 t5 w v fs ps e1 e2 e3 e4 e5 =
    e5 ∙ ap (λ (x : List ℕ). x ++ (10 ∷ [])) (e4 ∙ ap (λ (x : List ℕ). x ++ spaced ps) (e3 ∙ ap (λ (x : List ℕ). x ++ v) (e2 ∙ ap (λ (x : List ℕ). x ++ (32 ∷ [])) e1)))
    ∙ leaf_joined t w (spaced fs) (32 ∷ []) v (spaced ps) (10 ∷ []) ∙ ap (λ (x : List ℕ). t ++ fed (w ++ x)) (sym (spaced_both fs (v ∷ ps)))

pub flags_pushed : (t t1 t2 : List ℕ) (n : ℕ) → t1 ≡ t ++ codes " flags " → t2 ≡ t1 ++ hex_byte n → t2 ≡ t ++ spaced (codes "flags" ∷ hex_byte n ∷ [])
flags_pushed t t1 t2 n e1 e2 = e2 ∙ ap (λ (x : List ℕ). x ++ hex_byte n) e1 ∙ append_assoc t (codes " flags ") (hex_byte n)

-- ---- the word of an AVP

pub named_word : (c : AvpCode) (es : List DictEntry) (i : ℕ) (known : Option DictEntry) (name : List ℕ) → i < length es → slice_get es i ≡ known → IfSome (slice_get es i) (λ e. name ≡ e.name)
    → (not (option_eq nat_eq c.vendor (Some 0)) && is_none (numbered name)) ≡ true → name ≡ name_or_code c known
named_word c es i known name within is named has = by (slice_get es i) refl named ∙ ap (name_or_code c) is
  where
    by : (o : Option DictEntry) → slice_get es i ≡ o → IfSome o (λ e. name ≡ e.name) → name ≡ name_or_code c o
    by None none named = absurd (let beyond = get_none es i none in omega (arith, within, beyond))
    by (Some e) there named =
        named ∙ sym (ap (λ (b : Bool). if b then e.name else code_text c) (ap (λ (n : List ℕ). not (option_eq nat_eq c.vendor (Some 0)) && is_none (numbered n)) (sym named) ∙ has))

pub coded_word : (c : AvpCode) (o known : Option DictEntry) (name : List ℕ) → o ≡ known → IfSome o (λ e. name ≡ e.name)
    → (not (option_eq nat_eq c.vendor (Some 0)) && is_none (numbered name)) ≡ false → code_text c ≡ name_or_code c known
coded_word c o known name is named has = by o named ∙ ap (name_or_code c) is
  where
    by : (o : Option DictEntry) → IfSome o (λ e. name ≡ e.name) → code_text c ≡ name_or_code c o
    by None named = refl
    by (Some e) named =
        sym (ap (λ (b : Bool). if b then e.name else code_text c) (ap (λ (n : List ℕ). not (option_eq nat_eq c.vendor (Some 0)) && is_none (numbered n)) (sym named) ∙ has))
