-- What is found for two formats, from what is found for their kinds.
use Rattle.std.proofs.Common.{◌≡◌, ℕ, ◌<◌, List, Option, Some, None, refl, sym, subst}
use Rattle.std.specs.Prelude.{Any, IfSome}
use Rattle.std.specs.Option.{option_map}
use Rattle.dia_data.specs.Number.{number}
use Rattle.dia_data.specs.Plain.{PlainFormat, Grouped}
use Rattle.dia_data.specs.Leaf.{IsLeaf, IsWithin}
use Rattle.dia_breaking_data.specs.declared.short_data.Witness.{Witness}
use Rattle.dia_breaking_data.specs.Shortest.{AreBytes, IsShortest, IsShortestLeaf, witness_bytes}
use Rattle.dia_breaking_data.specs.Kinds.{Kind, Four, Host, Listed, IsWitness, IsKindOf, IsOf, IsShortestOf, four_bytes}
use Rattle.dia_breaking_data.proofs.DataOfKinds.{shortest_of}
use Rattle.dia_breaking_data.proofs.BytesOfNumbers.{number_four, four_number, four_are_bytes, small_number, host_four, short_family}

-- ---- numbers

pub listed_four : (ranges : List (ℕ × ℕ)) (n : ℕ) → Any (IsWithin n) ranges → IsOf (Listed ranges) (four_bytes n)
listed_four ranges n any = (refl, subst (λ (m : ℕ). Any (IsWithin m) ranges) (sym (number_four n)) any)

four_listed : (ranges : List (ℕ × ℕ)) (n : ℕ) → IsOf (Listed ranges) (four_bytes n) → Any (IsWithin n) ranges
four_listed ranges n h = subst (λ (m : ℕ). Any (IsWithin m) ranges) (number_four n) h.1

pub number_of_list : (ranges : List (ℕ × ℕ)) (g : Kind) (n : ℕ) → n < 4294967296 → Any (IsWithin n) ranges → ¬ IsOf g (four_bytes n) → IsShortestOf (Listed ranges) g (four_bytes n)
number_of_list ranges g n small any refused = shortest_of (Listed ranges) g (four_bytes n) (four_are_bytes n small) (listed_four ranges n any) refused refl

pub no_number_of_list : (ranges : List (ℕ × ℕ)) (g : Kind) → ((n : ℕ) → Any (IsWithin n) ranges → IsOf g (four_bytes n)) → IsWitness (Listed ranges) g None
no_number_of_list ranges g each = λ bytes are h. subst (IsOf g) (four_number bytes are h.0) (each (number bytes) h.1)

pub number_missing : (ranges : List (ℕ × ℕ)) (n : ℕ) → n < 4294967296 → ¬ Any (IsWithin n) ranges → IsShortestOf Four (Listed ranges) (four_bytes n)
number_missing ranges n small none = shortest_of Four (Listed ranges) (four_bytes n) (four_are_bytes n small) refl (λ h. none (four_listed ranges n h)) refl

pub none_missing : (ranges : List (ℕ × ℕ)) → ((n : ℕ) → n < 4294967296 → Any (IsWithin n) ranges) → IsWitness Four (Listed ranges) None
none_missing ranges each = λ bytes are h. (h, each (number bytes) (small_number bytes are h))

-- ---- two formats

pub some_found : (f g : PlainFormat) (k l : Kind) (found : Option Witness) → IsKindOf k f → IsKindOf l g → IsWitness k l (option_map witness_bytes found)
    → IfSome found (λ w. IsShortest f g (witness_bytes w))
some_found f g k l None is is' answer = tt
some_found f g k l (Some w) is is' answer = record {
  are_bytes = answer.are_bytes;
  sent = (is (witness_bytes w)).1 answer.sent;
  refused = λ leaf. answer.refused ((is' (witness_bytes w)).0 leaf);
  least = λ other leaf n. answer.least other ((is other).0 leaf) (λ h. n ((is' other).1 h));
}

pub none_found : (f g : PlainFormat) (k l : Kind) (found : Option Witness) → IsKindOf k f → IsKindOf l g → IsWitness k l (option_map witness_bytes found) → found ≡ None
    → (bytes : List ℕ) → AreBytes bytes → IsLeaf f bytes → IsLeaf g bytes
none_found f g k l None is is' answer e bytes are leaf = (is' bytes).1 (answer bytes are ((is bytes).0 leaf))
none_found f g k l (Some w) is is' answer e bytes are leaf = absurd (let p : Some w ≡ None = e in cc)

-- a leaf that no Grouped AVP has is any leaf
pub shortest_leaf : (f : PlainFormat) (found : Option Witness) → IfSome found (λ w. IsShortest f Grouped (witness_bytes w)) → IfSome found (λ w. IsShortestLeaf f (witness_bytes w))
shortest_leaf f None s = tt
shortest_leaf f (Some w) s = record {
  are_bytes = s.are_bytes;
  leaf = s.sent;
  least = λ other leaf. s.least other leaf (λ h. h);
}

-- ---- what is said by the kinds of Rust values

pub missing_none : (k : Kind) (ranges : List (ℕ × ℕ)) (found : Option Witness) → k ≡ Listed ranges → found ≡ None → ((n : ℕ) → n < 4294967296 → Any (IsWithin n) ranges)
    → IsWitness Four k (option_map witness_bytes found)
missing_none k ranges found is none each =
    subst (λ (o : Option Witness). IsWitness Four k (option_map witness_bytes o)) (sym none) (subst (λ (l : Kind). IsWitness Four l None) (sym is) (none_missing ranges each))

pub missing_some : (k : Kind) (ranges : List (ℕ × ℕ)) (n : ℕ) (bytes : List ℕ) → k ≡ Listed ranges → bytes ≡ four_bytes n → n < 4294967296 → ¬ Any (IsWithin n) ranges → IsWitness Four k (Some bytes)
missing_some k ranges n bytes is spelled small none =
    subst (λ (b : List ℕ). IsWitness Four k (Some b)) (sym spelled) (subst (λ (l : Kind). IsWitness Four l (Some (four_bytes n))) (sym is) (number_missing ranges n small none))

pub listed_none : (k : Kind) (ranges : List (ℕ × ℕ)) (found : Option Witness) → found ≡ None → ((n : ℕ) → Any (IsWithin n) ranges → IsOf k (four_bytes n))
    → IsWitness (Listed ranges) k (option_map witness_bytes found)
listed_none k ranges found none each =
    subst (λ (o : Option Witness). IsWitness (Listed ranges) k (option_map witness_bytes o)) (sym none) (no_number_of_list ranges k each)

pub listed_some : (k : Kind) (ranges : List (ℕ × ℕ)) (n : ℕ) (bytes : List ℕ) → bytes ≡ four_bytes n → n < 4294967296 → Any (IsWithin n) ranges → ¬ IsOf k (four_bytes n)
    → IsWitness (Listed ranges) k (Some bytes)
listed_some k ranges n bytes spelled small any refused =
    subst (λ (b : List ℕ). IsWitness (Listed ranges) k (Some b)) (sym spelled) (number_of_list ranges k n small any refused)

-- ---- the numbers of one range

pub host_some : (k : Kind) (low high : ℕ) (found : Option ℕ) → k ≡ Host → IfSome found (λ n. IsWithin n (low, high) × IsWithin n (65536, 196607))
    → IfSome found (λ n. IsWithin n (low, high) × (¬ IsOf k (four_bytes n)))
host_some k low high None is h = tt
host_some k low high (Some n) is h = (h.0, λ address. short_family n h.1 (subst (λ (l : Kind). IsOf l (four_bytes n)) is address))

pub host_none : (k : Kind) (low high : ℕ) → k ≡ Host → ((n : ℕ) → IsWithin n (low, high) → ¬ IsWithin n (65536, 196607)) → (n : ℕ) → IsWithin n (low, high) → IsOf k (four_bytes n)
host_none k low high is none n w = subst (λ (l : Kind). IsOf l (four_bytes n)) (sym is) (host_four n (none n w))

pub list_some : (k : Kind) (ranges : List (ℕ × ℕ)) (low high : ℕ) (found : Option ℕ) → k ≡ Listed ranges → IfSome found (λ n. IsWithin n (low, high) × (¬ Any (IsWithin n) ranges))
    → IfSome found (λ n. IsWithin n (low, high) × (¬ IsOf k (four_bytes n)))
list_some k ranges low high None is h = tt
list_some k ranges low high (Some n) is h = (h.0, λ listed. h.1 (four_listed ranges n (subst (λ (l : Kind). IsOf l (four_bytes n)) is listed)))

pub list_none : (k : Kind) (ranges : List (ℕ × ℕ)) (low high : ℕ) → k ≡ Listed ranges → ((n : ℕ) → IsWithin n (low, high) → Any (IsWithin n) ranges) → (n : ℕ) → IsWithin n (low, high)
    → IsOf k (four_bytes n)
list_none k ranges low high is each n w = subst (λ (l : Kind). IsOf l (four_bytes n)) (sym is) (listed_four ranges n (each n w))

pub other_some : (k : Kind) (f : PlainFormat) (low high : ℕ) (found : Option ℕ) → IsKindOf k f → IfSome found (λ n. IsWithin n (low, high) × (¬ IsLeaf f (four_bytes n)))
    → IfSome found (λ n. IsWithin n (low, high) × (¬ IsOf k (four_bytes n)))
other_some k f low high None is h = tt
other_some k f low high (Some n) is h = (h.0, λ of_kind. h.1 ((is (four_bytes n)).1 of_kind))
