-- The answer that is due to a request by the base dictionary: a valid message, with the request's header and the fault's code.
use Rattle.std.proofs.Common.{◌≡◌, ℕ, ◌/◌, ◌<◌, ◌^◌, Bool, true, false, cond, List, [], ◌∷◌, map, inl, inr, refl, sym, subst, ◌∙◌}
use Rattle.std.specs.Prelude.{◌==◌}
use Rattle.std.specs.List.{AllByRecursion}
use Rattle.dia_wire.specs.declared.Header.{Header}
use Rattle.dia_wire.specs.Number.{IsField}
use Rattle.dia_wire.specs.Wire.{HasR}
use Rattle.dia_wire.proofs.Written.{four}
use Rattle.dia_book.specs.Dictionary.{AreRules, Dictionary, IsDictionary, PlainDefinition}
use Rattle.dia_dict.specs.Base.{base}
use Rattle.dia_check.specs.declared.Levels.{Levels}
use Rattle.dia_check.specs.declared.Levels.TheVariants.{Any}
use Rattle.dia_check.specs.declared.Unknown.{Unknown}
use Rattle.dia_check.specs.declared.Unknown.TheVariants.{Kept}
use Rattle.dia_check.proofs.AvpFaults.{are_rules_here}
use Rattle.dia_valid.specs.Valid.{IsValid}
use Rattle.dia_valid.proofs.Members.{all_append}
use Rattle.dia_answer.specs.declared.forms.Form.{Form}
use Rattle.dia_answer.specs.declared.forms.Form.TheVariants as form
use Rattle.dia_answer.specs.declared.forms.Made.{Made}
use Rattle.dia_answer.specs.Bodies.{Parts, in_order, result_code}
use Rattle.dia_answer.specs.Dictionaries.{opaque}
use Rattle.dia_answer.specs.Reports.{Attempt, HasOne, IsBy, IsByFirst, IsCommandOf, IsDue, IsFormFor, IsProcessed, IsRequest, IsValidBy, answer_header, attempts_for, form_dictionary, forms_for}
use Rattle.dia_answer.specs.Requests.{IsRequestHead}
use Rattle.dia_answer.specs.Sources.{in_extent}
use Rattle.dia_answer.specs.Stocks.{own}
use Rattle.dia_answer.proofs.Orders.{order_keeps}
use Rattle.dia_answer.proofs.Results.{recorded_code}
use Rattle.dia_answer.proofs.Stocks.{the_result_code}
use Rattle.dia_peer.proofs.BaseDictionary.{base_is_dictionary}
use Rattle.dia_peer.proofs.Sets.{eq_same}

-- ---- the attempt by which it was made

by_one : (d : Dictionary) (h : Header) (p : Parts) (P : Form → Type 0) (attempts : List Attempt) (f : Form) (bytes : List ℕ) → AllByRecursion (λ a. P a.form) attempts → IsByFirst d h p attempts f bytes
    → (a : Attempt) × (f ≡ a.form) × P a.form × IsBy d h p a bytes
by_one d h p P [] f bytes all x = absurd x
by_one d h p P (a ∷ attempts) f bytes (first, all) (inl (is, x)) = (a, is, first, x)
by_one d h p P (a ∷ attempts) f bytes (first, all) (inr (none, x)) = by_one d h p P attempts f bytes all x

all_made : (P : Form → Type 0) (make : Form → Attempt) → ((f : Form) → (make f).form ≡ f) → (forms : List Form) → AllByRecursion P forms → AllByRecursion (λ a. P a.form) (map make forms)
all_made P make is [] all = tt
all_made P make is (f ∷ forms) (first, all) = (subst P (sym (is f)) first, all_made P make is forms all)

-- the command's own answer is tried for permanent failures alone
permitted : (code : ℕ) → AllByRecursion (IsFormFor code) (forms_for code)
permitted code = by (code / 1000 == 5) refl
  where
    by : (b : Bool) → (code / 1000 == 5) ≡ b → AllByRecursion (IsFormFor code) (cond b (form.Own ∷ form.Error ∷ form.Base ∷ []) (form.Error ∷ form.Base ∷ []))
    by true e = (eq_same (code / 1000) 5 e, (tt, (tt, tt)))
    by false e = (tt, (tt, tt))

all_permitted : (code : ℕ) → AllByRecursion (λ a. IsFormFor code a.form) (attempts_for code)
all_permitted code =
    all_append (λ (a : Attempt). IsFormFor code a.form) _ _ (all_made (IsFormFor code) _ (λ f. refl) (forms_for code) (permitted code))
    (all_made (IsFormFor code) _ (λ f. refl) (forms_for code) (permitted code))

-- ---- what is known of it

is_dictionary : (f : Form) → IsDictionary (form_dictionary f base)
is_dictionary form.Own = base_is_dictionary
is_dictionary form.Error = base_is_dictionary
is_dictionary form.Base = base_is_dictionary

command_rules : (d : Dictionary) (h : Header) (f : Form) (command : PlainDefinition) → IsDictionary d → IsCommandOf d h f command → AreRules command.rules
command_rules d h f command sound (c, select, at) = are_rules_here d c command command.rules sound at refl

is_valid_by : (d : Dictionary) (u v : Unknown) (most all : Levels) (bytes : List ℕ) → u ≡ v → most ≡ all → IsValid d u most bytes → IsValid d v all bytes
is_valid_by d u v most all bytes one other h = subst (λ (l : Levels). IsValid d v l bytes) other (subst (λ (x : Unknown). IsValid d x most bytes) one h)

same_flags : (h : Header) (request : List ℕ) → IsRequestHead h request → IsRequest request → HasR h.flags
same_flags h request reads (k, also, set) = subst HasR (also.flags ∙ sym reads.flags) set

-- a valid message that answers the request with the code of its fault
pub record IsMade (request : List ℕ) (code : ℕ) (f : Form) (bytes : List ℕ) : Type 0 where
  pub valid : IsValidBy base Kept Any f bytes
  pub processed : IsProcessed request code f bytes
  pub permanent : IsFormFor code f
  pub result_code : HasOne result_code (IsField 4 code) bytes

pub is_made : (host realm request : List ℕ) (made : Made) → IsDue base Kept Any host realm request made → IsMade request made.fault.code made.form made.bytes.items
is_made host realm request made due =
    let code = made.fault.code in
    let bytes = made.bytes.items in
    let h = due.first.header in
    let p = due.first.parts in
    let are = due.first.are_parts in
    let (a, is, permanent, of) = by_one base h p (IsFormFor code) (attempts_for code) made.form bytes (all_permitted code) due.first.first in
    let d = form_dictionary a.form base in
    let avps = in_order of.command.rules of.avps in
    let small : code < 2 ^ 32 = recorded_code base Kept Any request made.fault due.recorded in
    subst (λ (f : Form). IsMade request code f bytes) (sym is)
    (record {
      valid = is_valid_by (opaque d) p.unknown Kept p.levels Any bytes are.unknown are.levels of.valid;
      processed = record {
        header = h;
        reads = due.first.reads;
        is_request = same_flags h request due.first.reads due.is_request;
        avps = avps;
        message = of.message.message;
      };
      permanent = permanent;
      result_code = record {
        header = answer_header h a.form;
        avps = avps;
        message = of.message.message;
        avp = own d 268 p.code;
        one = order_keeps result_code of.command.rules of.avps (command_rules d h a.form of.command (is_dictionary a.form) of.is_command)
            ∙ the_result_code d a.form of.command.rules (in_extent a.extent p) of.avps of.are_avps;
        held = subst (IsField 4 code) (sym are.code) (four code small);
      };
    })
