use Rattle.std.proofs.Common.{◌≡◌, ℕ, zero, suc, ◌<◌, List, [], ◌∷◌, length, take, Option, Some, None, refl, sym, ap, ◌∙◌, arith}
use Rattle.std.specs.Prelude.{slice_get, option_and_then}
use Rattle.std.specs.List.{filter_map, cons_option}
use Rattle.std.specs.Option.{option_map}
use Rattle.std.proofs.lemmas.List.{length-append}
use Rattle.std.proofs.lemmas.Option.{none-some, same_Some}
use Rattle.dia_dict.specs.Dictionary.{Dictionary, DictEntry, PlainDefinition, group_place, groups, definitions}
use Rattle.dia_dict_tests.proofs.dict.answers.same_entry.Goals as goal

-- a member that has an image is one of as many
images_before : {X Y : Type 0} (h : X → Option Y) (xs : List X) (i : ℕ) (x : X) (y : Y) → slice_get xs i ≡ Some x → h x ≡ Some y → length (filter_map h (take i xs)) < length (filter_map h xs)
images_before h [] i x y at here = absurd (none-some x at)
images_before h (z ∷ zs) zero x y at here = rw (ap h (same_Some z x at) ∙ here) (omega arith)
images_before {X} {Y} h (z ∷ zs) (suc i) x y at here = by (h z) (images_before h zs i x y at here)
  where
    by : (o : Option Y) → length (filter_map h (take i zs)) < length (filter_map h zs) → length (cons_option o (filter_map h (take i zs))) < length (cons_option o (filter_map h zs))
    by None fewer = fewer
    by (Some w) fewer = omega (arith, fewer)

group-within : (d : Dictionary) (entry k : ℕ) → group_place d entry ≡ Some k → k < length (definitions d)
group-within d entry k found = at (slice_get d.entries entry) refl found
  where
    grouped : (e : DictEntry) (o : Option PlainDefinition) → slice_get d.entries entry ≡ Some e → e.group ≡ o
        → option_map (λ (_ : PlainDefinition). length (filter_map (λ (e : DictEntry). e.group) (take entry d.entries))) o ≡ Some k → k < length (definitions d)
    grouped e None here none same = absurd (none-some k same)
    grouped e (Some g) here some same =
        omega (
          arith,
          images_before (λ (e : DictEntry). e.group) d.entries entry e g here some,
          same_Some (length (filter_map (λ (e : DictEntry). e.group) (take entry d.entries))) k same,
          length-append (groups d) d.commands,
        )

    at : (o : Option DictEntry) → slice_get d.entries entry ≡ o
        → option_and_then (λ (x : DictEntry). option_map (λ (_ : PlainDefinition). length (filter_map (λ (e : DictEntry). e.group) (take entry d.entries))) x.group) o ≡ Some k
        → k < length (definitions d)
    at None here same = absurd (none-some k same)
    at (Some e) here same = grouped e e.group here refl same

pub same_definition-requires-clause-in_a : goal.same_definition-requires-clause-in_a
same_definition-requires-clause-in_a g c =
    group-within (g.A.Book.meaning c.args.a.now) c.args.one c.in-Some-Some.group (sym c.group-group.ensures ∙ c.in-Some-Some.is-0)

pub same_definition-requires-clause-in_b : goal.same_definition-requires-clause-in_b
same_definition-requires-clause-in_b g c =
    group-within (g.B.Book.meaning c.args.b.now) c.args.other c.in-Some-Some.twin (sym c.group-twin.ensures ∙ c.in-Some-Some.is-1)
