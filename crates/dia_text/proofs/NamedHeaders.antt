-- The flags of a header that begins with the name of a command.
use Rattle.std.proofs.Common.{◌≡◌, ℕ, ◌+◌, ◌^◌, Bool, true, false, nat_lt, if◌then◌else◌, List, Option, Some, None, unwrap_or, Result, Ok, Err, refl, sym, ap, subst, ◌∙◌, arith}
use Rattle.std.specs.Prelude.{option_and_then}
use Rattle.std.proofs.lemmas.Option.{none-some, same_Some}
use Rattle.dia_wire.specs.Wire.{HasR, HasE, HasT}
use Rattle.dia_terms.specs.declared.Pxy.{Pxy}
use Rattle.dia_terms.specs.declared.Pxy.TheVariants.{Clear, Set, Either}
use Rattle.dia_book.specs.declared.Class.{Class}
use Rattle.dia_book.specs.declared.Class.TheVariants as classes
use Rattle.dia_book.specs.declared.DefHead.{DefHead}
use Rattle.dia_book.specs.declared.DefHead.TheVariants.{Group, Command, Error}
use Rattle.dia_book.specs.Dictionary.{Dictionary, PlainDefinition}
use Rattle.dia_valid.specs.Valid.{AllowsP, PHolds}
use Rattle.dia_text.specs.declared.fault.Kind.{Kind}
use Rattle.dia_text.specs.declared.fault.Kind.TheVariants.{Name}
use Rattle.dia_text.specs.declared.commands.Start.{Start}
use Rattle.dia_text.specs.Reading.{some_or}
use Rattle.dia_text.specs.Keys.{class_flags, p_flag, start_of, command_named, start_named}
use Rattle.dia_text.specs.ValidTexts.{HasOwnFlags}

-- what a header may have
abbrev MayHave : Pxy → ℕ → Type 0
MayHave p flags = PHolds p flags × (HasR flags → ¬ HasE flags) × (HasT flags → HasR flags)

may_have : (class : Class) (p : Pxy) → MayHave p (class_flags class + p_flag p)
may_have classes.Request Clear = (λ h. h refl, λ r e. e refl, λ t. absurd (t refl))
may_have classes.Request Set = (λ z. omega (arith, z), λ r e. e refl, λ t. absurd (t refl))
may_have classes.Request Either = (tt, λ r e. e refl, λ t. absurd (t refl))
may_have classes.Answer Clear = (λ h. h refl, λ r. absurd (r refl), λ t. absurd (t refl))
may_have classes.Answer Set = (λ z. omega (arith, z), λ r. absurd (r refl), λ t. absurd (t refl))
may_have classes.Answer Either = (tt, λ r. absurd (r refl), λ t. absurd (t refl))
may_have classes.Error Clear = (λ h. h refl, λ r. absurd (r refl), λ t. absurd (t refl))
may_have classes.Error Set = (λ z. omega (arith, z), λ r. absurd (r refl), λ t. absurd (t refl))
may_have classes.Error Either = (tt, λ r. absurd (r refl), λ t. absurd (t refl))

own : (d : Dictionary) (name : List ℕ) (s : Start) (c : PlainDefinition) (head : DefHead) → command_named d name ≡ Some c → c.head ≡ head → start_of head ≡ Some s → HasOwnFlags d name s
own d name s c (Group key) is same begins = absurd (none-some s begins)
own d name s c (Error p) is same begins = absurd (none-some s begins)
own d name s c (Command code class app p) is same begins = by (nat_lt code (2 ^ 24)) refl
  where
    flags : ℕ
    flags = class_flags class + p_flag p

    start : Start
    start = record { code = code; flags = Some flags; app = Some (unwrap_or app 0) }

    by : (b : Bool) → nat_lt code (2 ^ 24) ≡ b → HasOwnFlags d name s
    by false e = absurd (none-some s (sym (ap (λ (x : Bool). if x then Some start else None) e) ∙ begins))
    by true e =
        let may = may_have class p in
        record {
          command = c;
          flags = flags;
          named = is;
          said = ap (λ (x : Start). x.flags) (sym (same_Some start s (sym (ap (λ (x : Bool). if x then Some start else None) e) ∙ begins)));
          proxiable = subst (λ (h : DefHead). AllowsP h flags) (sym same) may.0;
          no_error_request = may.1;
          no_repeated_answer = may.2;
        }

abbrev is_read : {A : Type 0} → Result A Kind → Bool
is_read (Ok x) = true
is_read (Err k) = false

start_is : (o : Option Start) (s : Start) → some_or o Name ≡ Ok s → o ≡ Some s
start_is None s is = absurd (let e : false ≡ true = ap is_read is in cc)
start_is (Some x) s is = ap (λ (r : Result Start Kind). started r) is
  where
    started : Result Start Kind → Option Start
    started (Ok y) = Some y
    started (Err k) = None

pub own_flags : (d : Dictionary) (name : List ℕ) (s : Start) → start_named d name ≡ Ok s → HasOwnFlags d name s
own_flags d name s is = by (command_named d name) refl
  where
    begins : option_and_then (λ c. start_of c.head) (command_named d name) ≡ Some s
    begins = start_is (option_and_then (λ c. start_of c.head) (command_named d name)) s is

    by : (o : Option PlainDefinition) → command_named d name ≡ o → HasOwnFlags d name s
    by None e = absurd (none-some s (sym (ap (λ (x : Option PlainDefinition). option_and_then (λ c. start_of c.head) x) e) ∙ begins))
    by (Some c) e = own d name s c c.head e refl (sym (ap (λ (x : Option PlainDefinition). option_and_then (λ y. start_of y.head) x) e) ∙ begins)
