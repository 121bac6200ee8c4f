-- What is offered before a key, and the lines that report it (RFC 6733 section 3.2).
use Rattle.std.specs.Prelude.{◌≡◌, ◌⊎◌, ℕ, ◌+◌, ◌*◌, ◌/◌, ◌<◌, ◌≤◌, nat_lt, true, false, if◌then◌else◌, List, length, vec_len, Option, Some, None, slice_index_or, Contains}
use Rattle.std.specs.Option.{option_map_or}
use Rattle.dia_wire.specs.declared.Key.{Key}
use Rattle.dia_book.specs.declared.DRule.{DRule}
use Rattle.dia_valid.specs.Valid.{is_listed}
use Rattle.dia_valid.specs.Rules.{rule_of}
use Rattle.dia_breaking_levels.specs.declared.floor.Floor.{Floor}
use Rattle.dia_breaking_levels.specs.declared.line.Line.{Line}
use Rattle.dia_breaking_levels.specs.declared.line.Reason.TheVariants.{Order}
use Rattle.dia_breaking_levels.specs.declared.offers.Offer.{Offer}
use Rattle.dia_breaking_levels.specs.declared.offers.Offers.{Offers}
use Rattle.dia_breaking_levels.specs.Places.{place, index}
use Rattle.dia_breaking_levels.specs.LevelTests.{too_long}
use Rattle.dia_breaking_levels.specs.OrderTests.{is_turned, beyond, pair_length}

-- ---- one offer

abbrev pub nothing : Offer
nothing = record { length = too_long; turn = 18446744073709551615; key = None }

-- a number by which offers are compared: by their lengths, and those of one length by their turns, which are below 2 ^ 64
abbrev pub weight_of : ℕ → ℕ → ℕ
weight_of length turn = length * 18446744073709551616 + turn

abbrev pub weight : Offer → ℕ
weight offer = weight_of offer.length offer.turn

-- the one of less weight, and of those of one weight the first
abbrev pub lesser : Offer → Offer → Offer
lesser first second = if nat_lt (weight second) (weight first) then second else first

-- the place of a key's rule in the first definition, or else in the second
abbrev pub own_index : List DRule → List DRule → Key → ℕ
own_index a b x = if is_listed a x then index a x else index b x

abbrev pub offer_of : (Key → ℕ) → (Key → ℕ) → List DRule → List DRule → Key → Offer
offer_of listed other a b x = record { length = beyond listed other x (rule_of a x); turn = own_index a b x; key = Some x }

-- ---- the tree

abbrev pub node_at : List Offer → ℕ → Offer
node_at nodes i = slice_index_or nodes i (record { length = 0; turn = 0; key = None })

abbrev pub weight_at : List Offer → ℕ → ℕ
weight_at nodes i = weight (node_at nodes i)

-- no node has an offer of more weight than one of the two below it
abbrev pub AreLeast : List Offer → Type 0
AreLeast nodes = (i : ℕ) → 2 ≤ i → i < length nodes → weight_at nodes (i / 2) ≤ weight_at nodes i

-- each node that has two below it has the offer of one of them
abbrev pub AreAttained : List Offer → Type 0
AreAttained nodes = (i : ℕ) → 0 < i → i + i + 1 < length nodes → (node_at nodes i ≡ node_at nodes (i + i)) ⊎ (node_at nodes i ≡ node_at nodes (i + i + 1))

-- the offer is nothing, or that of a node from one up to another
abbrev pub IsOneWithin : List Offer → ℕ → ℕ → Offer → Type 0
IsOneWithin nodes from to offer = (offer ≡ nothing) ⊎ ((i : ℕ) × (from ≤ i) × (i < to) × (offer ≡ node_at nodes i))

-- a leaf for each place of the definition, and one for the place after them all
abbrev pub AreOffers : List DRule → Offers → Type 0
AreOffers a offers = (vec_len offers.nodes ≡ length a + 1 + (length a + 1)) × AreLeast offers.nodes.items × AreAttained offers.nodes.items

-- ---- what is offered

-- what is offered of the key, or less
abbrev pub held : List DRule → Offers → Key → Offer
held a offers x = option_map_or (λ rule. node_at offers.nodes.items (length a + 1 + place a x)) (rule_of a x) offers.other

-- the key is offered
abbrev pub IsOffered : (Key → ℕ) → (Key → ℕ) → List DRule → List DRule → Offers → Key → Type 0
IsOffered listed other a b offers x = weight (held a offers x) ≤ weight (offer_of listed other a b x)

-- no offer weighs more than it did
abbrev pub AreLess : List DRule → Offers → Offers → Type 0
AreLess a new old = (x : Key) → weight (held a new x) ≤ weight (held a old x)

-- a rule of either definition lists the key, or it is the one that represents all others
abbrev pub MayCome : List DRule → List DRule → Option Key → Key → Type 0
MayCome a b outer x = (is_listed a x ≡ true) ⊎ (is_listed b x ≡ true) ⊎ (outer ≡ Some x)

-- each key is offered that the second definition wants at this place or after it
abbrev pub AreOfferedFrom : (Key → ℕ) → (Key → ℕ) → List DRule → List DRule → Option Key → ℕ → Offers → Type 0
AreOfferedFrom listed other a b outer from offers = (x : Key) → MayCome a b outer x → from ≤ place b x → IsOffered listed other a b offers x

-- the offer of a key that the second definition wants at this place or after it
abbrev pub IsOfOne : (Key → ℕ) → (Key → ℕ) → List DRule → List DRule → Option Key → ℕ → Offer → Key → Type 0
IsOfOne listed other a b outer from offer x = (offer ≡ offer_of listed other a b x) × MayCome a b outer x × (from ≤ place b x)

-- each offer is nothing, or that of such a key which the first definition lists at the place
abbrev pub AreHeldFrom : (Key → ℕ) → (Key → ℕ) → List DRule → List DRule → Option Key → ℕ → List Offer → Type 0
AreHeldFrom listed other a b outer from nodes = (p : ℕ) → p ≤ length a → (node_at nodes (length a + 1 + p) ≡ nothing)
    ⊎ ((x : Key) × IsOfOne listed other a b outer from (node_at nodes (length a + 1 + p)) x × (is_listed a x ≡ true) × (place a x ≡ p))

-- or that of such a key which it doesn't list
abbrev pub IsOtherFrom : (Key → ℕ) → (Key → ℕ) → List DRule → List DRule → Option Key → ℕ → Offer → Type 0
IsOtherFrom listed other a b outer from offer = (offer ≡ nothing) ⊎ ((x : Key) × IsOfOne listed other a b outer from offer x × (is_listed a x ≡ false))

abbrev pub AreTrueFrom : (Key → ℕ) → (Key → ℕ) → List DRule → List DRule → Option Key → ℕ → Offers → Type 0
AreTrueFrom listed other a b outer from offers = AreHeldFrom listed other a b outer from offers.nodes.items × IsOtherFrom listed other a b outer from offers.other

-- ---- lines

-- a line of the order at this key, no longer than this
abbrev pub HasLine : List Line → Key → ℕ → Type 0
HasLine lines y n = (line : Line) × Contains lines line × (line.reason ≡ Order) × (line.key ≡ Some y) × (line.length ≤ n)

-- of the keys from this place of the second definition on, each has a line no longer than any level in which another precedes it
-- too early
abbrev pub HasOrdersFrom : Floor → (Key → ℕ) → (Key → ℕ) → List DRule → List DRule → Option Key → ℕ → List Line → Type 0
HasOrdersFrom f listed other a b outer from lines =
    (y x : Key) → MayCome a b outer x → from ≤ place b y → is_turned a b y x ≡ true → pair_length f listed other a y x < too_long → HasLine lines y (pair_length f listed other a y x)
