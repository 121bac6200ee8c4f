-- The data that are retained for a leaf are as long as any shortest ones.
use Rattle.std.proofs.Common.{◌≡◌, ℕ, ◌≤◌, Bool, true, false, List, [], ◌∷◌, length, Option, Some, None, refl, sym, ap, ◌∙◌, arith}
use Rattle.std.specs.Prelude.{Any, min, nat_le, if◌then◌else◌}
use Rattle.std.specs.List.{list_any}
use Rattle.std.specs.Option.{option_map, option_map_or}
use Rattle.std.proofs.lemmas.Bool.{and_parts, false_from_ne_true, leb-false, leb-true, or_from}
use Rattle.std.proofs.lemmas.Option.{none-some, same_Some}
use Rattle.dia_data.specs.Leaf.{IsLeaf, IsWithin}
use Rattle.dia_data.specs.Number.{number}
use Rattle.dia_data.specs.Plain.{PlainFormat, AnyBytes, FourBytes, EightBytes, Grouped, Address, Utf8String, DiameterIdentity, DiameterUri, Enumerated}
use Rattle.dia_data.specs.Ranges.{covers}
use Rattle.dia_data.proofs.RangeSets.{any_within}
use Rattle.dia_breaking_data.specs.declared.short_data.Witness.{Witness}
use Rattle.dia_breaking_data.specs.Kinds.{Kind, Octets, Four, Eight, Host, Text, Identity, Link, IsApart, IsKindOf, four_bytes}
use Rattle.dia_breaking_data.specs.Shortest.{AreBytes, witness_bytes}
use Rattle.dia_breaking_data.specs.TheData.{kind_data, least_number, the_data}
use Rattle.dia_breaking_data.proofs.TheData.{found_witness}

-- there are data, as long as these
abbrev pub IsAsLong : Option Witness → List ℕ → Type 0
IsAsLong found bytes = (witness : Witness) × (found ≡ Some witness) × (length (witness_bytes witness) ≡ length bytes)

-- no data of the format are shorter
abbrev pub AreLeast : PlainFormat → List ℕ → Type 0
AreLeast f bytes = (other : List ℕ) → IsLeaf f other → length bytes ≤ length other

of_kind : (k : Kind) (f : PlainFormat) (found : Option Witness) (bytes : List ℕ) → IsApart k → IsKindOf k f → option_map witness_bytes found ≡ kind_data k → AreBytes bytes → IsLeaf f bytes
    → AreLeast f bytes → IsAsLong found bytes
of_kind k f None bytes apart is kept are leaf least = absurd (found_witness k None apart kept bytes are ((is bytes).0 leaf))
of_kind k f (Some w) bytes apart is kept are leaf least =
    let shortest = found_witness k (Some w) apart kept in
    let low = shortest.least bytes ((is bytes).0 leaf) (λ h. h) in
    let high = least (witness_bytes w) ((is (witness_bytes w)).1 shortest.sent) in
    (w, refl, omega (arith, low, high))

-- a list without least number has none
none_listed : (n : ℕ) (list : List (ℕ × ℕ)) → least_number list ≡ None → list_any (covers n) list ≡ false
none_listed n [] none = refl
none_listed n (r ∷ rs) none = by (nat_le r.0 r.1) refl none (none_listed n rs)
  where
    empty : nat_le r.0 r.1 ≡ false → covers n r ≡ false
    empty above = false_from_ne_true (covers n r) (λ h.
        let low = and_parts (nat_le r.0 n) (nat_le n r.1) h in
        let first = leb-true r.0 n low.0 in
        let last = leb-true n r.1 low.1 in
        let over = leb-false r.0 r.1 above in
        omega (arith, first, last, over))

    by : (b : Bool) → nat_le r.0 r.1 ≡ b → (if b then Some (option_map_or (min r.0) (least_number rs) r.0) else least_number rs) ≡ None
        → (least_number rs ≡ None → list_any (covers n) rs ≡ false) → list_any (covers n) (r ∷ rs) ≡ false
    by true e is ih = absurd (none-some (option_map_or (min r.0) (least_number rs) r.0) (sym is))
    by false e is ih = or_from (covers n r) (list_any (covers n) rs) (empty e) (ih is)

of_list : (list : List (ℕ × ℕ)) (found : Option Witness) (bytes : List ℕ) → option_map witness_bytes found ≡ option_map four_bytes (least_number list) → length bytes ≡ 4
    → Any (IsWithin (number bytes)) list → IsAsLong found bytes
of_list list found bytes kept four listed = by (least_number list) refl found kept
  where
    by : (o : Option ℕ) → least_number list ≡ o → (found : Option Witness) → option_map witness_bytes found ≡ option_map four_bytes o → IsAsLong found bytes
    by None e found is =
        let some = (any_within (number bytes) list).1 listed in
        absurd (let bad : false ≡ true = sym (none_listed (number bytes) list e) ∙ some in cc)
    by (Some n) e None is = absurd (none-some (four_bytes n) is)
    by (Some n) e (Some w) is = (w, refl, ap length (same_Some (witness_bytes w) (four_bytes n) is) ∙ sym four)

pub kept_size : (f : PlainFormat) (found : Option Witness) (bytes : List ℕ) → option_map witness_bytes found ≡ the_data f → AreBytes bytes → IsLeaf f bytes → AreLeast f bytes → IsAsLong found bytes
kept_size (AnyBytes name) found bytes is are leaf least = of_kind Octets (AnyBytes name) found bytes tt (λ b. (λ h. h, λ h. h)) is are leaf least
kept_size (FourBytes name) found bytes is are leaf least = of_kind Four (FourBytes name) found bytes tt (λ b. (λ h. h, λ h. h)) is are leaf least
kept_size (EightBytes name) found bytes is are leaf least = of_kind Eight (EightBytes name) found bytes tt (λ b. (λ h. h, λ h. h)) is are leaf least
kept_size Grouped found bytes is are leaf least = absurd leaf
kept_size Address found bytes is are leaf least = of_kind Host Address found bytes tt (λ b. (λ h. h, λ h. h)) is are leaf least
kept_size Utf8String found bytes is are leaf least = of_kind Text Utf8String found bytes tt (λ b. (λ h. h, λ h. h)) is are leaf least
kept_size DiameterIdentity found bytes is are leaf least = of_kind Identity DiameterIdentity found bytes tt (λ b. (λ h. h, λ h. h)) is are leaf least
kept_size DiameterUri found bytes is are leaf least = of_kind Link DiameterUri found bytes tt (λ b. (λ h. h, λ h. h)) is are leaf least
kept_size (Enumerated None) found bytes is are leaf least = of_kind Four (Enumerated None) found bytes tt (λ b. (λ h. h.0, λ h. (h, tt))) is are leaf least
kept_size (Enumerated (Some list)) found bytes is are leaf least = of_list list found bytes is leaf.0 leaf.1
