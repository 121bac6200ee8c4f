-- The code and the application of each command of a text can be in a header.
use Rattle.std.proofs.Common.{◌≡◌, ℕ, zero, suc, ◌+◌, ◌^◌, ◌<◌, ◌≤◌, List, [], ◌∷◌, Option, Some, None, subst, ◌∙◌, arith}
use Rattle.std.specs.Prelude.{IfSome, slice_get}
use Rattle.std.proofs.lemmas.Option.{none-some, same_Some}
use Rattle.dia_ccf.specs.declared.Head.{Head}
use Rattle.dia_ccf.specs.declared.Head.TheVariants.{Group, Command, Error}
use Rattle.dia_ccf.specs.Grammar.{Item, Declaration, Definition, Tokens, application, command_of_head, each, head, item, item_command}
use Rattle.dia_ccf.specs.Plain.{PlainDef, PlainSource}
use Rattle.dia_ccf.specs.Tokens.{Token}
use Rattle.dia_book.specs.Dictionary.{Dictionary, PlainDefinition}
use Rattle.dia_book.proofs.Members.{at_filter_map, at_map}
use Rattle.dia_dict.specs.Resolution.{definition_of, head_of}
use Rattle.dia_io.specs.declared.Input.{Input}
use Rattle.dia_run.specs.Texts.{IsDictionaryText}
use Rattle.dia_lint.specs.Exact.{AreNumbered, IsNumbered}

-- the tokens of one of them
part_of : {X : Type 0} (class : X → Tokens) (xs : List X) (ts : List Token) → each class xs ts → (j : ℕ) (x : X) → slice_get xs j ≡ Some x → (part : List Token) × class x part
part_of class [] ts h j x at = absurd (none-some x at)
part_of class (y ∷ ys) ts (front, rest, e, own, others) zero x at = (front, subst (λ z. class z front) (same_Some y x at) own)
part_of class (y ∷ ys) ts (front, rest, e, own, others) (suc j) x at = part_of class ys rest others j x at

app_numbered : (app : Option ℕ) (ts : List Token) → application app ts → IfSome app (λ a. a < 2 ^ 32)
app_numbered None ts h = tt
app_numbered (Some n) ts (front, rest, e, comma, (least, one)) = omega (arith, least)

head_numbered : (h : Head) (d x : PlainDef) (ts : List Token) → command_of_head h d ≡ Some x → head h ts → IsNumbered (head_of h)
head_numbered (Group code n) d x ts is h = absurd (none-some x is)
head_numbered (Error pxy) d x ts is h = tt
head_numbered (Command code request pxy app) d x ts is (a, b, e, header, (f, g, e1, (least, one), (i, j, e2, flag, (k, l, e3, proxy, last)))) = (omega (arith, least), app_numbered app l last)

same_def : (h : Head) (d x : PlainDef) → command_of_head h d ≡ Some x → d ≡ x
same_def (Group code n) d x is = absurd (none-some x is)
same_def (Command code request pxy app) d x is = same_Some d x is
same_def (Error pxy) d x is = same_Some d x is

item_numbered : (it : Item) (x : PlainDef) (ts : List Token) → item_command it ≡ Some x → item it ts → IsNumbered (head_of x.head)
item_numbered (Declaration decl) x ts is h = absurd (none-some x is)
item_numbered (Definition d) x ts is (fixed, (a, b, e, named, (c, f, e1, assign, (g, i, e2, less, (j, k, e3, own, rest))))) =
    subst (λ (y : PlainDef). IsNumbered (head_of y.head)) (same_def d.head d x is) (head_numbered d.head d x j is own)

pub commands_numbered : (input : Input) (d : Dictionary) → IsDictionaryText input d → AreNumbered d
commands_numbered input d (source, (text, holds, utf8, (items, derived, is)), right, same, sound) = λ i command at.
    let here = subst (λ (y : Dictionary). slice_get y.commands i ≡ Some command) same at in
    let def = at_map (definition_of source) source.commands i command here in
    let there = subst (λ (y : PlainSource). slice_get y.commands i ≡ Some def.0) is def.1 in
    let it = at_filter_map item_command items i def.0 there in
    let part = part_of item items _ derived it.0 it.1 it.2 in
    subst (λ (y : PlainDefinition). IsNumbered y.head) def.2 (item_numbered it.1 def.0 part.0 it.3 part.1)
