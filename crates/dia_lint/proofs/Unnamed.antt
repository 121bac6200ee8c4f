-- An Application-ID that no command is for selects the commands that are for none.
use Rattle.std.proofs.Common.{◌≡◌, ℕ, ◌+◌, Bool, true, false, length, Option, Some, None, sym, ap, subst, ◌∙◌, inl, inr}
use Rattle.std.specs.Prelude.{◌⊎◌, option_and_then, slice_get, position}
use Rattle.std.specs.Option.{option_map, option_or}
use Rattle.std.proofs.lemmas.Option.{slice_get_within}
use Rattle.dia_book.specs.declared.Class.{Class}
use Rattle.dia_book.specs.declared.Class.TheVariants as classes
use Rattle.dia_book.specs.declared.DefHead.{DefHead}
use Rattle.dia_book.specs.declared.DefHead.TheVariants.{Error}
use Rattle.dia_book.specs.declared.Pxy.{Pxy}
use Rattle.dia_book.specs.Dictionary.{Dictionary, PlainDefinition, IsDictionary, IsSameSelector, groups, is_command, selected}
use Rattle.dia_book.proofs.Members.{into_right}
use Rattle.dia_valid.proofs.Members.{in_at}
use Rattle.dia_valid.proofs.Searches.{Found, NotFound, found_or_not}
use Rattle.dia_valid.proofs.SelectedCommands.{Reads, is_of_errors, reads}
use Rattle.dia_valid.specs.Commands.{IsError}
use Rattle.dia_lint.specs.Pairs.{IsUnnamed, app_in, app_of, general}

-- a value's application, by its place
app_at : (d : Dictionary) (i : ℕ) (x : PlainDefinition) → slice_get d.commands i ≡ Some x → app_in d (length (groups d) + i) ≡ app_of x.head
app_at d i x at = ap (option_and_then (λ (y : PlainDefinition). app_of y.head)) (into_right (groups d) d.commands i x at)

same_errors : (a b : DefHead) (p q : Pxy) → a ≡ Error p → b ≡ Error q → IsSameSelector a b
same_errors a b p q e f =
    let both : IsSameSelector (Error p) (Error q) = tt in
    subst (λ (h : DefHead). IsSameSelector h b) (sym e) (subst (λ (h : DefHead). IsSameSelector (Error p) h) (sym f) both)

one_error : (d : Dictionary) (i j : ℕ) (x y : PlainDefinition) → IsDictionary d → slice_get d.commands i ≡ Some x → slice_get d.commands j ≡ Some y → IsError x → IsError y → i ≡ j
one_error d i j x y is at_x at_y (p, e) (q, f) = is.distinct_selectors i j x y at_x at_y (same_errors x.head y.head p q e f)

pub unnamed_selected : (d : Dictionary) (code : ℕ) (class : Class) (app : ℕ) → IsDictionary d → IsUnnamed d app → selected d code class app ≡ general d code class
unnamed_selected d code class app is unnamed = by (found_or_not own d.commands) (found_or_not common d.commands)
  where
    own : PlainDefinition → Bool
    own c = is_command code class (Some app) c.head

    common : PlainDefinition → Bool
    common c = is_command code class None c.head

    number : Option ℕ → Option ℕ → Option ℕ
    number x y = option_map (λ i. length (groups d) + i) (option_or x y)

    -- what an own one is
    error_of : (f : Found own d.commands) → IsError f.item × (class ≡ classes.Error)
    error_of f = which (reads d f.item code class (Some app) is (in_at d.commands f.place f.item f.at) f.passes)
      where
        which : Reads f.item code class (Some app) → IsError f.item × (class ≡ classes.Error)
        which (inl e) = e
        which (inr (h, _)) = absurd (unnamed f.place (slice_get_within d.commands f.place f.item f.at) (app_at d f.place f.item f.at ∙ ap app_of h.head))

    error_found : (f : Found common d.commands) → class ≡ classes.Error → IsError f.item
    error_found f e = which (reads d f.item code class None is (in_at d.commands f.place f.item f.at) f.passes)
      where
        which : Reads f.item code class None → IsError f.item
        which (inl (h, _)) = h
        which (inr (_, other)) = absurd (other e)

    by : Found own d.commands ⊎ NotFound own d.commands → Found common d.commands ⊎ NotFound common d.commands → number (position own d.commands) (position common d.commands) ≡ number None (position common d.commands)
    by (inr none) other = ap (λ (o : Option ℕ). number o (position common d.commands)) none.is_none
    by (inl f) (inl g) =
        let e = error_of f in
        let same : f.place ≡ g.place = one_error d f.place g.place f.item g.item is f.at g.at e.0 (error_found g e.1) in
        ap (λ (o : Option ℕ). number o (position common d.commands)) f.is_place ∙ ap (λ (i : ℕ). option_map (λ n. length (groups d) + n) (Some i)) same
        ∙ sym (ap (λ (o : Option ℕ). number None o) g.is_place)
    by (inl f) (inr none) =
        let e = error_of f in
        let passes = is_of_errors f.item code class None e.0 e.1 in
        absurd (let x : true ≡ false = sym passes ∙ none.none f.item (in_at d.commands f.place f.item f.at) in cc)
