-- What is answered, by what its parts answer.
use Rattle.std.proofs.Common.{◌≡◌, ℕ, List, Some, Result, Ok, Err, refl, sym, ap, subst, ◌∙◌}
use Rattle.std.specs.Prelude.{slice_get}
use Rattle.std.specs.declared.alloc.AllocError.{AllocError}
use Rattle.dia_book.specs.declared.Class.{Class}
use Rattle.dia_book.specs.declared.DRule.{DRule}
use Rattle.dia_book.specs.Dictionary.{Dictionary, IsDictionary, PlainDefinition, definitions, selected}
use Rattle.dia_terms.specs.declared.Unknown.{Unknown}
use Rattle.dia_terms.specs.declared.Levels.{Levels}
use Rattle.dia_valid.specs.Valid.{IsValid}
use Rattle.dia_answer.specs.declared.contents.Contents.{Contents}
use Rattle.dia_check.proofs.AvpFaults.{are_rules_here}
use Rattle.dia_answer.specs.declared.contents.Extent.{Extent}
use Rattle.dia_answer.specs.declared.forms.Form.{Form}
use Rattle.dia_answer.specs.declared.forms.Made.{Made}
use Rattle.dia_answer.specs.declared.forms.NoAnswer.{NoAnswer}
use Rattle.dia_answer.specs.Dictionaries.{opaque}
use Rattle.dia_answer.specs.Reports.{IsAnswerBy, IsAnswerOf, IsFormFor, IsValidBy, IsWritten, OnMade, form_class, form_dictionary}

pub OnMade-map : (P Q : Made → Type 0) → ((made : Made) → P made → Q made) → (r : Result (Result Made NoAnswer) AllocError) → OnMade P r → OnMade Q r
OnMade-map P Q h (Ok (Ok made)) p = h made p
OnMade-map P Q h (Ok (Err why)) p = tt
OnMade-map P Q h (Err e) p = tt

pub made_is_valid : (d : Dictionary) (c : Contents) (made : Made) (u : Unknown) (most : Levels) → c.unknown ≡ u → c.levels ≡ most → IsAnswerOf d c made → IsValidBy d u most made.form made.bytes.items
made_is_valid d c made u most is_u is_most h =
    subst (λ (l : Levels). IsValid (opaque (form_dictionary made.form d)) u l made.bytes.items) is_most
    (subst (λ (x : Unknown). IsValid (opaque (form_dictionary made.form d)) x c.levels made.bytes.items) is_u h.written.valid)

-- by the command that is selected
pub answered_by : (d : Dictionary) (c : Contents) (f : Form) (e : Extent) (made : Made) (class : Class) (i : ℕ) (def : PlainDefinition) (rules : List DRule) → IsDictionary d → made.fault ≡ c.fault → made.form ≡ f → IsFormFor c.fault.code f
    → class ≡ form_class f → Some i ≡ selected d c.header.code class c.header.app → slice_get (definitions d) i ≡ Some def → rules ≡ def.rules → IsWritten d f rules e c made.bytes.items → IsAnswerBy d c made
answered_by d c f e made class i def rules sound fault form permanent is_class select is_command same written =
    let here : IsWritten d f def.rules e c made.bytes.items = subst (λ (rs : List DRule). IsWritten d f rs e c made.bytes.items) same written in record {
      fault = fault;
      permanent = subst (λ (g : Form). IsFormFor c.fault.code g) (sym form) permanent;
      command = def;
      is_command = (i, sym (select ∙ ap (λ (k : Class). selected d c.header.code k c.header.app) (is_class ∙ ap form_class (sym form))), is_command);
      are_rules = are_rules_here d i def def.rules sound is_command refl;
      extent = e;
      written = subst (λ (g : Form). IsWritten d g def.rules e c made.bytes.items) (sym form) here;
    }
