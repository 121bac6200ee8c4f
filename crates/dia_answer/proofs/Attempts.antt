-- Which attempts make an answer.
use Rattle.std.proofs.Common.{◌≡◌, ◌≢◌, ℕ, Bool, true, false, cond, List, [], ◌∷◌, ◌++◌, Option, Some, None, Result, Ok, Err, inl, inr, refl, sym, ap, subst, ◌∙◌}
use Rattle.std.specs.Prelude.{◌==◌, ◌/◌, IfOk, MatchOption, slice_get, map}
use Rattle.std.proofs.lemmas.Bool.{eqb-true}
use Rattle.std.proofs.lemmas.Option.{none-some, same_Some}
use Rattle.dia_wire.specs.declared.Header.{Header}
use Rattle.dia_wire.specs.Wire.{PlainAvp, key_of, HasE, HasR, HasT, IsMessage, IsTooLong, MessageWithZeros}
use Rattle.dia_book.specs.declared.Class.{Class}
use Rattle.dia_book.specs.declared.DRule.{DRule}
use Rattle.dia_book.specs.Dictionary.{Dictionary, PlainDefinition, definitions, selected}
use Rattle.dia_terms.specs.declared.Unknown.{Unknown}
use Rattle.dia_terms.specs.declared.Levels.{Levels}
use Rattle.dia_valid.specs.Valid.{AllFit, AllowsP, IsValid, IsValidOf, Placed, class_of}
use Rattle.dia_check.specs.declared.Refusal.{Refusal}
use Rattle.dia_check.specs.declared.Refusal.TheVariants as refusal
use Rattle.dia_answer.specs.declared.contents.Contents.{Contents}
use Rattle.dia_answer.specs.declared.contents.Extent.{Extent}
use Rattle.dia_answer.specs.declared.forms.Form.{Form}
use Rattle.dia_answer.specs.declared.forms.Form.TheVariants as form
use Rattle.dia_answer.specs.declared.forms.Made.{Made}
use Rattle.dia_answer.specs.Dictionaries.{opaque}
use Rattle.dia_answer.specs.Bodies.{IsStock, in_order}
use Rattle.dia_answer.specs.Requests.{AreBytes}
use Rattle.dia_answer.specs.Sources.{in_extent, parts_of}
use Rattle.dia_answer.specs.Reports.{AreTried, Attempt, IsByFirst, IsListed, IsTried, IsWritten, answer_header, attempts_in, form_class, form_dictionary, forms_for}
use Rattle.dia_answer.proofs.Messages.{one_message}
use Rattle.dia_answer.proofs.OneStock.{one_stock}

-- messages of the same header and AVPs are valid together
pub valid_too : (d : Dictionary) (u : Unknown) (most : Levels) (h : Header) (vs : List PlainAvp) (a b : List ℕ) → IsMessage h vs a → IsMessage h vs b → IsValid d u most a → IsValid d u most b
valid_too d u most h vs a b m n (c, v) =
    let same = one_message v.header h v.avps vs a v.message m in (
      c,
      record {
        header = h;
        avps = vs;
        command = v.command;
        message = n;
        no_error_request = subst (λ (k : Header). HasR k.flags → ¬ HasE k.flags) same.0 v.no_error_request;
        no_repeated_answer = subst (λ (k : Header). HasT k.flags → HasR k.flags) same.0 v.no_repeated_answer;
        select = ap (λ (k : Header). selected d k.code (class_of k.flags) k.app) (sym same.0) ∙ v.select;
        is_command = v.is_command;
        proxiable = subst (λ (k : Header). AllowsP v.command.head k.flags) same.0 v.proxiable;
        placed = subst (λ (ws : List PlainAvp). Placed v.command.rules (map key_of ws)) same.1 v.placed;
        fit = subst (AllFit d u most) same.1 v.fit;
      },
    )

-- ---- by the rules of a command

abbrev pub NoneWritten : Dictionary → Form → List DRule → Extent → Contents → Type 0
NoneWritten d f rules e c = (bytes : List ℕ) → ¬ IsWritten d f rules e c bytes

pub none_unlisted : (d : Dictionary) (f : Form) (rules : List DRule) (e : Extent) (c : Contents) (stock : List PlainAvp) → IsStock d f rules (in_extent e (parts_of c)) stock → ¬ IsListed f rules stock → NoneWritten d f rules e c
none_unlisted d f rules e c stock is other bytes w = other (subst (IsListed f rules) (one_stock d f rules (in_extent e (parts_of c)) w.stock stock w.is_stock is) w.listed)

pub none_too_long : (d : Dictionary) (f : Form) (rules : List DRule) (e : Extent) (c : Contents) (stock avps : List PlainAvp) → IsStock d f rules (in_extent e (parts_of c)) stock → avps ≡ in_order rules stock → IsTooLong avps
    → NoneWritten d f rules e c
none_too_long d f rules e c stock avps is order too_long bytes w =
    w.room (subst IsTooLong (order ∙ ap (in_order rules) (one_stock d f rules (in_extent e (parts_of c)) stock w.stock is w.is_stock)) too_long)

none_invalid : (d : Dictionary) (f : Form) (rules : List DRule) (e : Extent) (c : Contents) (h : Header) (stock avps : List PlainAvp) (bytes : List ℕ) → IsStock d f rules (in_extent e (parts_of c)) stock → avps ≡ in_order rules stock
    → h ≡ answer_header c.header f → IsMessage h avps bytes → ¬ IsValid (opaque d) c.unknown c.levels bytes → NoneWritten d f rules e c
none_invalid d f rules e c h stock avps bytes is order header message other b w =
    let same : in_order rules w.stock ≡ avps = ap (in_order rules) (one_stock d f rules (in_extent e (parts_of c)) w.stock stock w.is_stock is) ∙ sym order in
    let also : IsMessage h avps b = subst (λ (k : Header). IsMessage k avps b) (sym header) (subst (λ (vs : List PlainAvp). IsMessage (answer_header c.header f) vs b) same w.message.message) in
    other (valid_too (opaque d) c.unknown c.levels h avps b bytes also message w.valid)

-- a message of these AVPs, if it is valid
pub written_by : {X E : Type 0} (items : X → List ℕ) (d : Dictionary) (f : Form) (rules : List DRule) (e : Extent) (c : Contents) (h : Header) (stock avps : List PlainAvp) (bytes : List ℕ) → IsStock d f rules (in_extent e (parts_of c)) stock
    → IsListed f rules stock → avps ≡ in_order rules stock → h ≡ answer_header c.header f → ¬ IsTooLong avps → MessageWithZeros h avps bytes → AreBytes bytes
    → (r : Result (Option X) E) → IfOk r (λ found. MatchOption found (¬ IsValid (opaque d) c.unknown c.levels bytes) (λ same. (items same ≡ bytes) × IsValid (opaque d) c.unknown c.levels bytes))
    → IfOk r (λ found. MatchOption found (NoneWritten d f rules e c) (λ b. IsWritten d f rules e c (items b)))
written_by items d f rules e c h stock avps bytes is_stock listed order header room message are (Ok (Some b)) (same, valid) = record {
  stock = stock;
  is_stock = is_stock;
  listed = listed;
  room = subst (λ (vs : List PlainAvp). ¬ IsTooLong vs) order room;
  message = subst (λ (x : List ℕ). MessageWithZeros (answer_header c.header f) (in_order rules stock) x) (sym same)
      (subst (λ (k : Header). MessageWithZeros k (in_order rules stock) bytes) header (subst (λ (vs : List PlainAvp). MessageWithZeros h vs bytes) order message));
  are_bytes = subst AreBytes (sym same) are;
  valid = subst (λ (x : List ℕ). IsValid (opaque d) c.unknown c.levels x) (sym same) valid;
}
written_by items d f rules e c h stock avps bytes is_stock listed order header room message are (Ok None) other = none_invalid d f rules e c h stock avps bytes is_stock order header message.message other
written_by items d f rules e c h stock avps bytes is_stock listed order header room message are (Err x) p = tt

-- ---- of a form

pub none_selected : (d : Dictionary) (c : Contents) (f : Form) (e : Extent) (class : Class) → class ≡ form_class f → None ≡ selected d c.header.code class c.header.app → IsTried d c f e None
none_selected d c f e class is none bytes o = none-some o.is_command.0 (none ∙ ap (λ (k : Class). selected d c.header.code k c.header.app) is ∙ o.is_command.1)

-- the rules of the command that is selected
the_rules : (d : Dictionary) (i j : ℕ) (def command : PlainDefinition) (o : Option ℕ) → Some i ≡ o → slice_get (definitions d) i ≡ Some def → o ≡ Some j → slice_get (definitions d) j ≡ Some command → command ≡ def
the_rules d i j def command o is at is' at' = same_Some command def (sym at' ∙ ap (λ (n : ℕ). slice_get (definitions d) n) (same_Some j i (sym is' ∙ sym is)) ∙ at)

pub none_by : (d : Dictionary) (c : Contents) (f : Form) (e : Extent) (class : Class) (i : ℕ) (def : PlainDefinition) (rules : List DRule) → class ≡ form_class f → Some i ≡ selected d c.header.code class c.header.app
    → slice_get (definitions d) i ≡ Some def → rules ≡ def.rules → NoneWritten d f rules e c → IsTried d c f e None
none_by d c f e class i def rules is select at same none bytes o =
    let here : Some i ≡ selected d c.header.code (form_class f) c.header.app = select ∙ ap (λ (k : Class). selected d c.header.code k c.header.app) is in
    let command : o.command ≡ def = the_rules d i o.is_command.0 def o.command (selected d c.header.code (form_class f) c.header.app) here at o.is_command.1 o.is_command.2 in
    let rules_are : o.command.rules ≡ rules = ap (λ (x : PlainDefinition). x.rules) command ∙ sym same in
    let w : IsWritten d f o.command.rules e c bytes = record { stock = o.avps; is_stock = o.are_avps; listed = o.listed; room = o.room; message = o.message; are_bytes = o.are_bytes; valid = o.valid } in
    none bytes (subst (λ (rs : List DRule). IsWritten d f rs e c bytes) rules_are w)

pub some_by : (d : Dictionary) (c : Contents) (f : Form) (e : Extent) (made : Made) (class : Class) (i : ℕ) (def : PlainDefinition) (rules : List DRule) → made.fault ≡ c.fault → made.form ≡ f → class ≡ form_class f
    → Some i ≡ selected d c.header.code class c.header.app → slice_get (definitions d) i ≡ Some def → rules ≡ def.rules → IsWritten d f rules e c made.bytes.items → IsTried d c f e (Some made)
some_by d c f e made class i def rules fault form is select at same written =
    let w : IsWritten d f def.rules e c made.bytes.items = subst (λ (rs : List DRule). IsWritten d f rs e c made.bytes.items) same written in (
      fault,
      form,
      record {
        command = def;
        is_command = (i, sym (select ∙ ap (λ (k : Class). selected d c.header.code k c.header.app) is), at);
        avps = w.stock;
        are_avps = w.is_stock;
        listed = w.listed;
        room = w.room;
        message = w.message;
        are_bytes = w.are_bytes;
        valid = w.valid;
      },
    )

-- ---- one attempt after the other

abbrev pub attempt : Extent → Form → Attempt
attempt e f = record { form = f; extent = e }

pub tried_one : (d : Dictionary) (c : Contents) (f : Form) (e : Extent) (found : Option Made) → IsTried (form_dictionary f d) c f e found → AreTried d c (attempt e f ∷ []) found
tried_one d c f e None none = (none, tt)
tried_one d c f e (Some made) (fault, form, is) = (fault, inl (form, is))

pub tried_enough : (d : Dictionary) (c : Contents) (xs ys : List Attempt) (made : Made) → AreTried d c xs (Some made) → AreTried d c (xs ++ ys) (Some made)
tried_enough d c xs ys made (fault, first) = (fault, by xs first)
  where
    by : (zs : List Attempt) → IsByFirst d c.header (parts_of c) zs made.form made.bytes.items → IsByFirst d c.header (parts_of c) (zs ++ ys) made.form made.bytes.items
    by [] h = absurd h
    by (a ∷ zs) (inl h) = inl h
    by (a ∷ zs) (inr (none, h)) = inr (none, by zs h)

pub tried_more : (d : Dictionary) (c : Contents) (xs ys : List Attempt) (found : Option Made) → AreTried d c xs None → AreTried d c ys found → AreTried d c (xs ++ ys) found
tried_more d c [] ys found none h = h
tried_more d c (a ∷ xs) ys None (none, all) h = (none, tried_more d c xs ys None all h)
tried_more d c (a ∷ xs) ys (Some made) (none, all) h = let later = tried_more d c xs ys (Some made) all h in (later.0, inr (none, later.1))

-- ---- the forms of one extent

abbrev pub in_turn : ℕ → Extent → List Attempt
in_turn code e = attempts_in e (forms_for code)

forms_permanent : (code : ℕ) → code / 1000 ≡ 5 → forms_for code ≡ form.Own ∷ form.Error ∷ form.Base ∷ []
forms_permanent code is = ap (λ (n : ℕ). cond (n == 5) (form.Own ∷ form.Error ∷ form.Base ∷ []) (form.Error ∷ form.Base ∷ [])) is

forms_other : (code : ℕ) → ¬ (code / 1000 ≡ 5) → forms_for code ≡ form.Error ∷ form.Base ∷ []
forms_other code other = by (code / 1000 == 5) refl
  where
    by : (b : Bool) → (code / 1000 == 5) ≡ b → cond b (form.Own ∷ form.Error ∷ form.Base ∷ []) (form.Error ∷ form.Base ∷ []) ≡ form.Error ∷ form.Base ∷ []
    by true e = absurd (other (eqb-true (code / 1000) 5 e))
    by false e = refl

module _ (d : Dictionary) (c : Contents) (e : Extent) (code : ℕ) where
  pub own_first : (made : Made) → code / 1000 ≡ 5 → IsTried d c form.Own e (Some made) → AreTried d c (in_turn code e) (Some made)
  own_first made permanent own =
      subst (λ (fs : List Form). AreTried d c (attempts_in e fs) (Some made)) (sym (forms_permanent code permanent))
      (tried_enough d c (attempt e form.Own ∷ []) (attempt e form.Error ∷ attempt e form.Base ∷ []) made (tried_one d c form.Own e (Some made) own))

  pub error_second : (made : Made) → code / 1000 ≡ 5 → IsTried d c form.Own e None → IsTried d c form.Error e (Some made) → AreTried d c (in_turn code e) (Some made)
  error_second made permanent own error =
      subst (λ (fs : List Form). AreTried d c (attempts_in e fs) (Some made)) (sym (forms_permanent code permanent))
      (tried_more d c (attempt e form.Own ∷ []) (attempt e form.Error ∷ attempt e form.Base ∷ []) (Some made) (tried_one d c form.Own e None own)
      (tried_enough d c (attempt e form.Error ∷ []) (attempt e form.Base ∷ []) made (tried_one d c form.Error e (Some made) error)))

  pub base_third : (found : Option Made) → code / 1000 ≡ 5 → IsTried d c form.Own e None → IsTried d c form.Error e None → IsTried (form_dictionary form.Base d) c form.Base e found → AreTried d c (in_turn code e) found
  base_third found permanent own error base =
      subst (λ (fs : List Form). AreTried d c (attempts_in e fs) found) (sym (forms_permanent code permanent))
      (tried_more d c (attempt e form.Own ∷ []) (attempt e form.Error ∷ attempt e form.Base ∷ []) found (tried_one d c form.Own e None own)
      (tried_more d c (attempt e form.Error ∷ []) (attempt e form.Base ∷ []) found (tried_one d c form.Error e None error) (tried_one d c form.Base e found base)))

  pub error_first : (made : Made) → ¬ (code / 1000 ≡ 5) → IsTried d c form.Error e (Some made) → AreTried d c (in_turn code e) (Some made)
  error_first made other error =
      subst (λ (fs : List Form). AreTried d c (attempts_in e fs) (Some made)) (sym (forms_other code other))
      (tried_enough d c (attempt e form.Error ∷ []) (attempt e form.Base ∷ []) made (tried_one d c form.Error e (Some made) error))

  pub base_second : (found : Option Made) → ¬ (code / 1000 ≡ 5) → IsTried d c form.Error e None → IsTried (form_dictionary form.Base d) c form.Base e found → AreTried d c (in_turn code e) found
  base_second found other error base =
      subst (λ (fs : List Form). AreTried d c (attempts_in e fs) found) (sym (forms_other code other))
      (tried_more d c (attempt e form.Error ∷ []) (attempt e form.Base ∷ []) found (tried_one d c form.Error e None error) (tried_one d c form.Base e found base))

-- ---- what a check refuses

pub not_valid : (d : Dictionary) (u : Unknown) (most : Levels) (bytes : List ℕ) (e : Refusal) → e ≢ refusal.NoMemory → ((c : ℕ) → IsValidOf d u most bytes c → e ≡ refusal.NoMemory) → ¬ IsValid d u most bytes
not_valid d u most bytes e other only (c, v) = other (only c v)

-- ---- the last form

pub last_permanent : {E : Type 0} (d : Dictionary) (c : Contents) (e : Extent) (own error : Option Made) (r : Result (Option Made) E) → c.fault.code / 1000 ≡ 5 → own ≡ None → IsTried d c form.Own e own → error ≡ None → IsTried d c form.Error e error
    → IfOk r (IsTried (form_dictionary form.Base d) c form.Base e) → IfOk r (AreTried d c (attempts_in e (forms_for c.fault.code)))
last_permanent d c e own error (Ok found) permanent no_own tried no_error failed base =
    base_third d c e c.fault.code found permanent (subst (IsTried d c form.Own e) no_own tried) (subst (IsTried d c form.Error e) no_error failed) base
last_permanent d c e own error (Err x) permanent no_own tried no_error failed base = tt

pub last_other : {E : Type 0} (d : Dictionary) (c : Contents) (e : Extent) (error : Option Made) (r : Result (Option Made) E) → ¬ (c.fault.code / 1000 ≡ 5) → error ≡ None → IsTried d c form.Error e error
    → IfOk r (IsTried (form_dictionary form.Base d) c form.Base e) → IfOk r (AreTried d c (attempts_in e (forms_for c.fault.code)))
last_other d c e error (Ok found) other no_error failed base = base_second d c e c.fault.code found other (subst (IsTried d c form.Error e) no_error failed) base
last_other d c e error (Err x) other no_error failed base = tt

pub no_made : (o : Option Made) → ((made : Made) → o ≢ Some made) → o ≡ None
no_made None h = refl
no_made (Some made) h = absurd (h made refl)
