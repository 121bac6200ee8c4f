-- Options of `show`, and of `mask`, that don't go together.
use Rattle.std.proofs.Common.{◌≡◌, Bool, true, false, List, Option, None, Some, codes, refl, subst}
use Rattle.std.specs.Prelude.{⊤}
use Rattle.clap.specs.Walk.{Row, first_of}
use Rattle.dia_cli.specs.Apart.{mask_apart, show_apart}
use Rattle.dia_cli.specs.Asking.{IsApart}
use Rattle.dia_cli.specs.Words.{apart_in, is_file, is_given, masked_apart_in}
use Rattle.dia_cli.specs.declared.apart.Apart.{Apart}
use Rattle.dia_cli.specs.declared.apart.Apart.TheVariants.{LinesAndStream, AllAndLines, AllAndStream, AllAndJson, AsTextAndNames, AsTextAndValues, AsTextAndLines, AsTextAndJson, OnlyAndKeep, OnlyAndMask, TextAndJson}

-- they are of `show`
abbrev IsOfShow : Option Apart → Type 0
IsOfShow None = ⊤
IsOfShow (Some LinesAndStream) = ⊥
IsOfShow (Some AllAndLines) = ⊥
IsOfShow (Some AllAndStream) = ⊥
IsOfShow (Some AllAndJson) = ⊥
IsOfShow (Some OnlyAndKeep) = ⊥
IsOfShow (Some OnlyAndMask) = ⊥
IsOfShow (Some TextAndJson) = ⊥
IsOfShow (Some apart) = ⊤

of_show : (as_text names values lines json : Bool) → IsOfShow (show_apart as_text names values lines json)
of_show true true values lines json = tt
of_show true false true lines json = tt
of_show true false false true json = tt
of_show true false false false true = tt
of_show true false false false false = tt
of_show false names values lines json = tt

apart_is_of_show : (rows : List Row) (apart : Apart) → apart_in rows ≡ Some apart → IsOfShow (Some apart)
apart_is_of_show rows apart is =
    subst IsOfShow is
    (of_show (is_given (first_of (codes "as-text") rows)) (is_given (first_of (codes "names") rows)) (is_file (first_of (codes "values") rows)) (is_given (first_of (codes "lines") rows))
    (is_given (first_of (codes "json") rows)))

pub is_apart : (rows : List Row) (apart : Apart) → apart_in rows ≡ Some apart → IsApart apart (codes "show", rows)
is_apart rows LinesAndStream is = absurd (apart_is_of_show rows LinesAndStream is)
is_apart rows AllAndLines is = absurd (apart_is_of_show rows AllAndLines is)
is_apart rows AllAndStream is = absurd (apart_is_of_show rows AllAndStream is)
is_apart rows AllAndJson is = absurd (apart_is_of_show rows AllAndJson is)
is_apart rows OnlyAndKeep is = absurd (apart_is_of_show rows OnlyAndKeep is)
is_apart rows OnlyAndMask is = absurd (apart_is_of_show rows OnlyAndMask is)
is_apart rows TextAndJson is = absurd (apart_is_of_show rows TextAndJson is)
is_apart rows AsTextAndNames is = (refl, is)
is_apart rows AsTextAndValues is = (refl, is)
is_apart rows AsTextAndLines is = (refl, is)
is_apart rows AsTextAndJson is = (refl, is)

-- they are of `mask`
abbrev IsOfMask : Option Apart → Type 0
IsOfMask None = ⊤
IsOfMask (Some OnlyAndKeep) = ⊤
IsOfMask (Some OnlyAndMask) = ⊤
IsOfMask (Some apart) = ⊥

of_mask : (keep mask only : Bool) → IsOfMask (mask_apart keep mask only)
of_mask true mask true = tt
of_mask false true true = tt
of_mask false false true = tt
of_mask keep mask false = tt

apart_is_of_mask : (rows : List Row) (apart : Apart) → masked_apart_in rows ≡ Some apart → IsOfMask (Some apart)
apart_is_of_mask rows apart is =
    subst IsOfMask is
    (of_mask (is_file (first_of (codes "keep") rows)) (is_file (first_of (codes "mask") rows)) (is_file (first_of (codes "only") rows)))

pub is_masked_apart : (rows : List Row) (apart : Apart) → masked_apart_in rows ≡ Some apart → IsApart apart (codes "mask", rows)
is_masked_apart rows OnlyAndKeep is = (refl, is)
is_masked_apart rows OnlyAndMask is = (refl, is)
is_masked_apart rows LinesAndStream is = absurd (apart_is_of_mask rows LinesAndStream is)
is_masked_apart rows AllAndLines is = absurd (apart_is_of_mask rows AllAndLines is)
is_masked_apart rows AllAndStream is = absurd (apart_is_of_mask rows AllAndStream is)
is_masked_apart rows AllAndJson is = absurd (apart_is_of_mask rows AllAndJson is)
is_masked_apart rows AsTextAndNames is = absurd (apart_is_of_mask rows AsTextAndNames is)
is_masked_apart rows AsTextAndValues is = absurd (apart_is_of_mask rows AsTextAndValues is)
is_masked_apart rows AsTextAndLines is = absurd (apart_is_of_mask rows AsTextAndLines is)
is_masked_apart rows AsTextAndJson is = absurd (apart_is_of_mask rows AsTextAndJson is)
is_masked_apart rows TextAndJson is = absurd (apart_is_of_mask rows TextAndJson is)
