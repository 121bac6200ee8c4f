-- Which messages commands are for.
use Rattle.std.proofs.Common.{◌≡◌, ℕ, Bool, true, false, nat_eq, Option, Some, None, refl, sym, ap, ◌∙◌, eqb-true, eq-eqb}
use Rattle.std.specs.Prelude.{◌&&◌}
use Rattle.std.specs.Bool.{Decides, beq}
use Rattle.std.specs.Option.{option_eq}
use Rattle.std.proofs.lemmas.Bool.{and_from, and_parts}
use Rattle.std.proofs.lemmas.Option.{none-some, same_Some}
use Rattle.dia_book.specs.declared.definition.Class.{Class}
use Rattle.dia_book.specs.declared.definition.Class.TheVariants as classes
use Rattle.dia_book.specs.declared.definition.DefHead.{DefHead}
use Rattle.dia_book.specs.declared.definition.DefHead.TheVariants.{Group, Command, Error}
use Rattle.dia_book.specs.Dictionary.{IsCommandHead, IsSameSelector}
use Rattle.dia_differences.specs.Headers.{is_request, messages}
use Rattle.dia_differences.specs.Partners.{same_messages}

abbrev pub Messages : Type 0
Messages = Option ℕ × Bool × Option ℕ

option_same : (o p : Option ℕ) → option_eq nat_eq o p ≡ true → o ≡ p
option_same None None e = refl
option_same None (Some y) e = absurd (let n : false ≡ true = e in cc)
option_same (Some x) None e = absurd (let n : false ≡ true = e in cc)
option_same (Some x) (Some y) e = ap (λ (n : ℕ). Some n) (eqb-true x y e)

option_own : (o : Option ℕ) → option_eq nat_eq o o ≡ true
option_own None = refl
option_own (Some x) = eq-eqb x x refl

bool_same : (a b : Bool) → beq a b ≡ true → a ≡ b
bool_same true true e = refl
bool_same false false e = refl
bool_same true false e = absurd (let n : false ≡ true = e in cc)
bool_same false true e = absurd (let n : false ≡ true = e in cc)

bool_own : (b : Bool) → beq b b ≡ true
bool_own true = refl
bool_own false = refl

pub messages_own : (m : Messages) → same_messages m m ≡ true
messages_own m = and_from _ _ (and_from _ _ (option_own m.0) (bool_own m.1)) (option_own m.2)

messages_parts : (m n : Messages) → same_messages m n ≡ true → (m.0 ≡ n.0) × (m.1 ≡ n.1) × (m.2 ≡ n.2)
messages_parts m n e =
    let both = and_parts (option_eq nat_eq m.0 n.0 && beq m.1 n.1) (option_eq nat_eq m.2 n.2) e in
    let front = and_parts (option_eq nat_eq m.0 n.0) (beq m.1 n.1) both.0 in
    (option_same m.0 n.0 front.0, bool_same m.1 n.1 front.1, option_same m.2 n.2 both.1)

class_by : (c d : Class) → (c ≡ classes.Error → ⊥) → (d ≡ classes.Error → ⊥) → is_request c ≡ is_request d → c ≡ d
class_by classes.Request classes.Request f g e = refl
class_by classes.Answer classes.Answer f g e = refl
class_by classes.Error d f g e = absurd (f refl)
class_by c classes.Error f g e = absurd (g refl)
class_by classes.Request classes.Answer f g e = absurd (let n : true ≡ false = e in cc)
class_by classes.Answer classes.Request f g e = absurd (let n : false ≡ true = e in cc)

pub messages_same : (m n : Messages) → same_messages m n ≡ true → m ≡ n
messages_same m n e =
    let parts = messages_parts m n e in
    let f : Option ℕ → Messages = λ o. (o, m.1, m.2) in
    let g : Bool → Messages = λ b. (n.0, b, m.2) in
    let h : Option ℕ → Messages = λ o. (n.0, n.1, o) in
    ap f parts.0 ∙ ap g parts.1 ∙ ap h parts.2

-- commands for the same messages have the same selector
pub selector_by : (h g : DefHead) → IsCommandHead h → IsCommandHead g → same_messages (messages h) (messages g) ≡ true → IsSameSelector h g
selector_by (Group key) g f k e = absurd f
selector_by h (Group key) f k e = absurd k
selector_by (Error p) (Error q) f k e = tt
selector_by (Error p) (Command c cl a q) f k e = absurd (none-some c (messages_parts (messages (Error p)) (messages (Command c cl a q)) e).0)
selector_by (Command c cl a q) (Error p) f k e = absurd (none-some c (sym (messages_parts (messages (Command c cl a q)) (messages (Error p)) e).0))
selector_by (Command c cl a p) (Command d dl b q) f k e =
    let parts = messages_parts (messages (Command c cl a p)) (messages (Command d dl b q)) e in
    (same_Some c d parts.0, class_by cl dl f k parts.1, parts.2)

pub messages_by : (h g : DefHead) → IsSameSelector h g → messages h ≡ messages g
messages_by (Command c cl a p) (Command d dl b q) (code, class, app) =
    let f : ℕ → Messages = λ n. (Some n, is_request cl, a) in
    let g : Class → Messages = λ l. (Some d, is_request l, a) in
    let h : Option ℕ → Messages = λ o. (Some d, is_request dl, o) in
    ap f code ∙ ap g class ∙ ap h app
messages_by (Error p) (Error q) e = refl
messages_by (Group key) g e = absurd e
messages_by h (Group key) e = absurd (none h e)
  where
    none : (h : DefHead) → IsSameSelector h (Group key) → ⊥
    none (Group k) e = e
    none (Command c cl a p) e = e
    none (Error p) e = e
messages_by (Command c cl a p) (Error q) e = absurd e
messages_by (Error p) (Command d dl b q) e = absurd e

pub messages_decides : (m n : Messages) → Decides (same_messages m n) (m ≡ n)
messages_decides m n = (messages_same m n, λ e. ap (same_messages m) (sym e) ∙ messages_own m)
