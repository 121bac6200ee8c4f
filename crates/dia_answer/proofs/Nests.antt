-- The groups around a fault, written one in another.
use Rattle.std.proofs.Common.{◌≡◌, ℕ, ◌+◌, ◌-◌, ◌<◌, ◌≤◌, List, [], ◌∷◌, ◌++◌, length, get_or, drop, Option, Some, None, refl, sym, ap, subst, ◌∙◌, append_assoc, arith}
use Rattle.std.specs.Option.{option_map_or}
use Rattle.std.proofs.lemmas.List.{drop_all, drop_more, length-append, length-take}
use Rattle.dia_wire.specs.Wire.{PlainAvp, avp_length, head_length, padded_length, plain_avp}
use Rattle.dia_wire.specs.Written.{avp_bytes, padding}
use Rattle.dia_wire.proofs.Spelling.{opened}
use Rattle.dia_wire.proofs.Written.{padding_length}
use Rattle.dia_breaking_data.specs.Shortest.{witness_bytes}
use Rattle.dia_breaking_data.specs.declared.Witness.{Witness}
use Rattle.dia_answer.specs.declared.example.Example.{Example}
use Rattle.dia_answer.specs.Examples.{plain_example}
use Rattle.dia_answer.specs.declared.around.Step.{Step}
use Rattle.dia_answer.specs.Failed.{PlainStep, BeginsBy, head_bytes, heads_length, nested, shown_bytes, wrapped}
use Rattle.dia_answer.specs.Levels.{plain_way}

length-head : (v : PlainAvp) (n : ℕ) → length (head_bytes v n) ≡ head_length v.vendor
length-head v n = by v.vendor
  where
    by : (o : Option ℕ) → length (head_bytes (record { code = v.code; flags = v.flags; vendor = o; bytes = v.bytes }) n) ≡ head_length o
    by None = refl
    by (Some vendor) = refl

pub length-nested : (groups : List PlainStep) (inner : List ℕ) → length (nested groups inner) ≡ heads_length groups + length inner
length-nested [] inner = omega arith
length-nested (s ∷ groups) inner =
    let n = head_length s.group.vendor + length (nested groups inner) in
    omega (arith, length-append (head_bytes s.group n) (nested groups inner), length-head s.group n, length-nested groups inner)

-- ---- the length of all

pub add_head : (groups : List Step) (s : Step) (i n k whole : ℕ) → n + heads_length (plain_way (drop i groups)) ≡ whole → i < length groups → s ≡ get_or groups i s → k ≡ head_length s.group.vendor
    → (n + k) + heads_length (plain_way (drop (i + 1) groups)) ≡ whole
add_head groups s i n k whole so_far within is size =
    let here : heads_length (plain_way (drop i groups)) ≡ head_length s.group.vendor + heads_length (plain_way (drop (i + 1) groups)) =
    ap (λ (xs : List Step). heads_length (plain_way xs)) (drop_more groups i s within ∙ ap (λ (t : Step). t ∷ drop (i + 1) groups) (sym is)) in
    omega (arith, so_far, here, size)

pub heads_fit : (groups : List Step) (s : Step) (i n k whole : ℕ) → n + heads_length (plain_way (drop i groups)) ≡ whole → i < length groups → s ≡ get_or groups i s → k ≡ head_length s.group.vendor → n + k ≤ whole
heads_fit groups s i n k whole so_far within is size = let all = add_head groups s i n k whole so_far within is size in omega (arith, all)

pub added_heads : (groups : List Step) (i n : ℕ) (inner : List ℕ) → n + heads_length (plain_way (drop i groups)) ≡ length inner + heads_length (plain_way groups) → length groups ≤ i → n ≡ length (nested (plain_way groups) inner)
added_heads groups i n inner so_far end =
    let none : heads_length (plain_way (drop i groups)) ≡ 0 = ap (λ (xs : List Step). heads_length (plain_way xs)) (drop_all i groups end) in
    omega (arith, so_far, none, length-nested (plain_way groups) inner)

-- ---- one head after the other

nest_rest : (groups : List Step) (s : Step) (i : ℕ) (inner : List ℕ) → i < length groups → s ≡ get_or groups i s
    → nested (plain_way (drop i groups)) inner ≡ head_bytes (plain_avp s.group) (head_length s.group.vendor + length (nested (plain_way (drop (i + 1) groups)) inner)) ++ nested (plain_way (drop (i + 1) groups)) inner
nest_rest groups s i inner within is = ap (λ (xs : List Step). nested (plain_way xs) inner) (drop_more groups i s within ∙ ap (λ (t : Step). t ∷ drop (i + 1) groups) (sym is))

nest_size : (groups : List Step) (s : Step) (i n : ℕ) (inner : List ℕ) → i < length groups → s ≡ get_or groups i s → n ≡ length (nested (plain_way (drop i groups)) inner)
    → n ≡ head_length s.group.vendor + length (nested (plain_way (drop (i + 1) groups)) inner)
nest_size groups s i n inner within is size =
    let rest = nested (plain_way (drop (i + 1) groups)) inner in let m = head_length s.group.vendor + length rest in
    omega (arith, size, ap length (nest_rest groups s i inner within is), length-append (head_bytes (plain_avp s.group) m) rest, length-head (plain_avp s.group) m)

pub nest_left : (groups : List Step) (s : Step) (i n k : ℕ) (inner : List ℕ) → i < length groups → s ≡ get_or groups i s → n ≡ length (nested (plain_way (drop i groups)) inner) → k ≡ head_length s.group.vendor
    → n - k ≡ length (nested (plain_way (drop (i + 1) groups)) inner)
nest_left groups s i n k inner within is size head = let e = nest_size groups s i n inner within is size in omega (arith, e, head)

pub nest_more : (groups : List Step) (s : Step) (i n : ℕ) (inner all out new : List ℕ) → all ≡ out ++ nested (plain_way (drop i groups)) inner → i < length groups → s ≡ get_or groups i s
    → n ≡ length (nested (plain_way (drop i groups)) inner) → new ≡ out ++ head_bytes (plain_avp s.group) n → all ≡ new ++ nested (plain_way (drop (i + 1) groups)) inner
nest_more groups s i n inner all out new so_far within is size pushed =
    let rest = nested (plain_way (drop (i + 1) groups)) inner in
    so_far ∙ ap (λ (x : List ℕ). out ++ x) (nest_rest groups s i inner within is) ∙ sym (append_assoc out (head_bytes (plain_avp s.group) (head_length s.group.vendor + length rest)) rest)
    ∙ ap (λ (m : ℕ). (out ++ head_bytes (plain_avp s.group) m) ++ rest) (sym (nest_size groups s i n inner within is size)) ∙ ap (λ (x : List ℕ). x ++ rest) (sym pushed)

-- ---- the AVP that shows the fault

pub length-avp_bytes : (v : PlainAvp) → length (avp_bytes v) ≡ padded_length v
length-avp_bytes v =
    let head = head_bytes v (avp_length v) in
    omega (arith, length-append (head ++ v.bytes) (padding (avp_length v)), length-append head v.bytes, length-head v (avp_length v), padding_length (avp_length v))

pub shown_within : (bytes : List ℕ) (shown : Option PlainAvp) → BeginsBy bytes shown → length (shown_bytes shown) ≤ length bytes
shown_within bytes None h = omega arith
shown_within bytes (Some v) (rest, (front, s, parts)) =
    let o = opened v front rest s in let size = length-avp_bytes v in omega (arith, o.front_length, size, ap length parts, length-append front rest)

head_most : (vendor : Option ℕ) → head_length vendor ≤ 12
head_most None = omega arith
head_most (Some vendor) = omega arith

least_most : (least : Option Witness) → length (option_map_or witness_bytes least []) ≤ 8
least_most None = omega arith
least_most (Some w) = omega (arith, length-take w.count w.bytes, w.within)

-- an example has few bytes
pub example_small : (e : Example) (v : PlainAvp) → v ≡ plain_example e → length (shown_bytes (Some v)) ≤ 24
example_small e v same =
    let few : length v.bytes ≤ 8 = subst (λ (x : PlainAvp). length x.bytes ≤ 8) (sym same) (least_most e.least) in
    let size = length-avp_bytes v in omega (arith, size, few, head_most v.vendor)
