-- What is found of an argument in the rows of a parse.
use Rattle.std.proofs.Common.{◌≡◌, ◌∙◌, Bool, true, false, List, [], ◌∷◌, ◌++◌, Option, Some, None, refl, sym, ap, subst}
use Rattle.std.specs.Prelude.{find, fold, is_some, option_map, option_and_then, if◌then◌else◌, slice_get}
use Rattle.std.specs.Option.{option_map_or}
use Rattle.std.specs.Str.{bytes_eq}
use Rattle.std.proofs.lemmas.Slice.Eq.{bytes_eq-Decides}
use Rattle.clap.specs.Facts.{explicit_source}
use Rattle.clap.specs.Takes.{is_given}
use Rattle.clap.specs.Walk.{Row, Rule, Text, all_of, at_row, default_rows, first_of, has_row, more_values, reading_by, with_default, with_values}
use Rattle.clap.specs.declared.builder.value_parser.Reading.{Reading}
use Rattle.clap.specs.declared.parser.matches.ValueSource.{ValueSource}
use Rattle.clap.specs.declared.parser.matches.ValueSource.TheVariants.{DefaultValue}

-- the values of an argument, and whether they are given or its default
abbrev pub Found : Type 0
Found = List Text × Option ValueSource

abbrev pub found : Text → List Row → Option Found
found id rows = option_map (λ (r : Row). (r.values, r.source)) (find (λ (r : Row). bytes_eq r.id id) rows)

-- the first, and where there is none the second
abbrev pub or_found : Option Found → Option Found → Option Found
or_found (Some x) y = Some x
or_found None y = y

pub or_none : (x : Option Found) → or_found x None ≡ x
or_none None = refl
or_none (Some x) = refl

or_assoc : (x y z : Option Found) → or_found (or_found x y) z ≡ or_found x (or_found y z)
or_assoc None y z = refl
or_assoc (Some x) y z = refl

abbrev pub values_from : ValueSource → List Text → Option Found
values_from source [] = None
values_from source (v ∷ vs) = Some (v ∷ vs, Some source)

-- the defaults of the first rule with this id that has some
abbrev pub default_found : Text → List Rule → Option Found
default_found id [] = None
default_found id (a ∷ rest) = or_found (if bytes_eq a.id id then values_from DefaultValue a.defaults else None) (default_found id rest)

one_more : (t : Bool) (id : Text) (r : Row) (rows more : List Row) → bytes_eq r.id id ≡ t → found id (rows ++ more) ≡ or_found (found id rows) (found id more)
    → found id (r ∷ rows ++ more) ≡ or_found (found id (r ∷ rows)) (found id more)
one_more true id r rows more is rest = rw is refl
one_more false id r rows more is rest = rw is rest

pub found_append : (id : Text) (rows more : List Row) → found id (rows ++ more) ≡ or_found (found id rows) (found id more)
found_append id [] more = refl
found_append id (r ∷ rows) more = one_more (bytes_eq r.id id) id r rows more refl (found_append id rows more)

fresh_more : (t : Bool) (id : Text) (change : Row → List Row) (missing : List Row) (r : Row) (rows : List Row) → bytes_eq r.id id ≡ t → found id (r ∷ rows) ≡ None
    → (found id rows ≡ None → at_row id change missing rows ≡ rows ++ missing) → at_row id change missing (r ∷ rows) ≡ r ∷ rows ++ missing
fresh_more true id change missing r rows is none rest = let bad : Some (r.values, r.source) ≡ None = rw is at none in absurd cc
fresh_more false id change missing r rows is none rest = let none_there : found id rows ≡ None = rw is at none in rw is (ap (λ (rs : List Row). r ∷ rs) (rest none_there))

-- what changes a row of an argument that has none adds one
pub fresh_row : (id : Text) (change : Row → List Row) (missing rows : List Row) → found id rows ≡ None → at_row id change missing rows ≡ rows ++ missing
fresh_row id change missing [] none = refl
fresh_row id change missing (r ∷ rows) none = fresh_more (bytes_eq r.id id) id change missing r rows refl none (fresh_row id change missing rows)

has_more : (t : Bool) (id : Text) (r : Row) (rows : List Row) → bytes_eq r.id id ≡ t → has_row id rows ≡ is_some (found id rows) → has_row id (r ∷ rows) ≡ is_some (found id (r ∷ rows))
has_more true id r rows is rest = rw is refl
has_more false id r rows is rest = rw is rest

pub has_found : (id : Text) (rows : List Row) → has_row id rows ≡ is_some (found id rows)
has_found id [] = refl
has_found id (r ∷ rows) = has_more (bytes_eq r.id id) id r rows refl (has_found id rows)

-- ---- what is read of the rows

pub first_found : (id : Text) (rows : List Row) → first_of id rows ≡ option_and_then (λ (f : Found). slice_get f.0 0) (found id rows)
first_found id rows = go (find (λ (r : Row). bytes_eq r.id id) rows)
  where
    go : (o : Option Row) → option_and_then (λ (r : Row). slice_get r.values 0) o ≡ option_and_then (λ (f : Found). slice_get f.0 0) (option_map (λ (r : Row). (r.values, r.source)) o)
    go None = refl
    go (Some r) = refl

pub all_found : (id : Text) (rows : List Row) → all_of id rows ≡ option_map (λ (f : Found). f.0) (found id rows)
all_found id rows = go (find (λ (r : Row). bytes_eq r.id id) rows)
  where
    go : (o : Option Row) → option_map (λ (r : Row). r.values) o ≡ option_map (λ (f : Found). f.0) (option_map (λ (r : Row). (r.values, r.source)) o)
    go None = refl
    go (Some r) = refl

pub given_found : (id : Text) (rows : List Row) → is_given id rows ≡ option_map_or (λ (f : Found). explicit_source f.1) (found id rows) false
given_found id rows = go (find (λ (r : Row). bytes_eq r.id id) rows)
  where
    go : (o : Option Row) → option_map_or (λ (r : Row). explicit_source r.source) o false ≡ option_map_or (λ (f : Found). explicit_source f.1) (option_map (λ (r : Row). (r.values, r.source)) o) false
    go None = refl
    go (Some r) = refl

-- ---- one use, and the defaults

abbrev pub row_from : Text → Reading → ValueSource → List Text → Row
row_from id how source values = record { id = id; values = values; count = None; source = Some source; reading = how }

-- an argument that had no row has this one, and others what they had
pub found_used : (id other : Text) (how : Reading) (source : ValueSource) (v : Text) (vs : List Text) (rows : List Row) → found id rows ≡ None
    → found other (with_values id how source (v ∷ vs) rows) ≡ or_found (found other rows) (if bytes_eq id other then values_from source (v ∷ vs) else None)
found_used id other how source v vs rows none =
    ap (found other) (fresh_row id (more_values source (v ∷ vs)) (row_from id how source (v ∷ vs) ∷ []) rows none) ∙ found_append other rows (row_from id how source (v ∷ vs) ∷ []) ∙ go (bytes_eq id other) refl
  where
    go : (t : Bool) → bytes_eq id other ≡ t
        → or_found (found other rows) (found other (row_from id how source (v ∷ vs) ∷ [])) ≡ or_found (found other rows) (if bytes_eq id other then values_from source (v ∷ vs) else None)
    go true is = rw is refl
    go false is = rw is refl

default_fresh : (other : Text) (a : Rule) (rows : List Row) (values : List Text) → found a.id rows ≡ None
    → found other (default_rows a.id (reading_by a) values rows) ≡ or_found (found other rows) (if bytes_eq a.id other then values_from DefaultValue values else None)
default_fresh other a rows [] none = go (bytes_eq a.id other)
  where
    go : (t : Bool) → found other rows ≡ or_found (found other rows) (if t then None else None)
    go true = sym (or_none (found other rows))
    go false = sym (or_none (found other rows))
default_fresh other a rows (v ∷ vs) none = found_used a.id other (reading_by a) DefaultValue v vs rows none

default_one : (t : Bool) (id : Text) (a : Rule) (rows : List Row) → is_some (found a.id rows) ≡ t
    → found id (with_default rows a) ≡ or_found (found id rows) (if bytes_eq a.id id then values_from DefaultValue a.defaults else None)
default_one false id a rows is =
    let none : has_row a.id rows ≡ false = has_found a.id rows ∙ is in
    rw none (default_fresh id a rows a.defaults (is_none (found a.id rows) is))
  where
    is_none : (o : Option Found) → is_some o ≡ false → o ≡ None
    is_none None e = refl
    is_none (Some x) e = absurd cc
default_one true id a rows is =
    let some : has_row a.id rows ≡ true = has_found a.id rows ∙ is in
    rw some (go (bytes_eq a.id id) refl)
  where
    stays : (o : Option Found) (values : List Text) → is_some o ≡ true → o ≡ or_found o (values_from DefaultValue values)
    stays None values e = absurd cc
    stays (Some x) values e = refl

    go : (t : Bool) → bytes_eq a.id id ≡ t → found id rows ≡ or_found (found id rows) (if bytes_eq a.id id then values_from DefaultValue a.defaults else None)
    go false e = rw e (sym (or_none (found id rows)))
    go true e =
        let same = (bytes_eq-Decides a.id id).0 e in
        rw e (stays (found id rows) a.defaults (subst (λ (i : Text). is_some (found i rows) ≡ true) same is))

-- an argument that has no row gets its defaults
pub found_default : (id : Text) (rows : List Row) (c : List Rule) → found id (fold with_default rows c) ≡ or_found (found id rows) (default_found id c)
found_default id rows [] = sym (or_none (found id rows))
found_default id rows (a ∷ rest) =
    found_default id (with_default rows a) rest ∙ ap (λ (o : Option Found). or_found o (default_found id rest)) (default_one (is_some (found a.id rows)) id a rows refl)
    ∙ or_assoc (found id rows) _ (default_found id rest)
