-- The levels of a message that hold a place: the deepest of them, and those round it.
use Rattle.std.proofs.Common.{◌≡◌, ℕ, zero, suc, ◌+◌, ◌-◌, ◌*◌, ◌<◌, ◌≤◌, List, [], ◌∷◌, ◌++◌, length, map, take, drop, Option, Some, None, refl, sym, ap, subst, ◌∙◌, arith, inl, inr}
use Rattle.std.specs.Prelude.{◌⊎◌, slice_get, slice_index, Contains, option_and_then, IsSome}
use Rattle.std.proofs.lemmas.List.{append_assoc, length-append, length-take, length-drop, get_or-take}
use Rattle.std.proofs.lemmas.Option.{same_Some, none-some}
use Rattle.dia_wire.specs.declared.Header.{Header}
use Rattle.dia_wire.specs.declared.Key.{Key}
use Rattle.dia_wire.specs.Wire.{PlainAvp, key_of, head_length, avp_length, padded_length, Spells, SpellsAll, BeginsWith, HasVendorFlag}
use Rattle.dia_wire.proofs.OneHeader.{one_header}
use Rattle.dia_wire.proofs.Spelling.{opened, rounded-le, at_least_8, with_vendor}
use Rattle.dia_data.specs.declared.LeafState.{LeafState}
use Rattle.dia_book.specs.Dictionary.{Dictionary, DictEntry, IsDictionary, PlainDefinition, definitions, selected}
use Rattle.dia_book.proofs.Members.{at_Contains}
use Rattle.dia_terms.specs.declared.Unknown.{Unknown}
use Rattle.dia_terms.specs.declared.Levels.{Levels}
use Rattle.dia_terms.specs.declared.Levels.TheVariants.{Any, AtMost}
use Rattle.dia_check.specs.declared.open_levels.OpenLevels.{OpenLevels}
use Rattle.dia_check.specs.declared.stream.parts.Part.{Part}
use Rattle.dia_check.specs.declared.stream.parts.Part.TheVariants.{Head, Data}
use Rattle.dia_check.specs.declared.stream.parts.HeadPart.{HeadPart}
use Rattle.dia_check.specs.declared.stream.parts.DataPart.{DataPart}
use Rattle.dia_valid.specs.Valid.{class_of, known}
use Rattle.dia_check.specs.Levels.{Level, IsMember, IsOpen, IsCommandOf, MayOpen, between}
use Rattle.dia_check.specs.Levels as levels
use Rattle.dia_check.specs.Faults.{HasGoodHeader}
use Rattle.dia_check.specs.Front.{front_bytes}
use Rattle.dia_check.specs.OpenLevels.{SoFar, AreOpen, and_key}
use Rattle.dia_check.specs.Reading.{HasSeen, IsInHead, IsInData, IsInPart}
use Rattle.dia_check.specs.Streaming.{IsWithinLimit}
use Rattle.dia_check.specs.UnderWay.{Lies, so_far}
use Rattle.dia_check.proofs.StreamMessages.{head_before}
use Rattle.dia_check.proofs.FirstFaults.{begun_room, open_bounds}
use Rattle.dia_check.proofs.FoundFaultsStand.{length-between, between-split, second_part}
use Rattle.dia_check.proofs.FaultlessLevels.{grouped_at, entry_of_group}
use Rattle.dia_check.proofs.HeadsInPieces.{first_says}
use Rattle.dia_check.proofs.UnderWay.{last, deep}
use Rattle.dia_check.proofs.Uniqueness.{nat_cases, le_split, one_front}

contains_at : {X : Type 0} (xs : List X) (i : ℕ) (x : X) → slice_get xs i ≡ Some x → Contains xs x
contains_at [] i x at = absurd (none-some x at)
contains_at (y ∷ xs) zero x at = (0, omega arith, same_Some y x at)
contains_at (y ∷ xs) (suc i) x at = let r = contains_at xs i x at in (suc r.0, omega (arith, r.1), r.2)

-- ---- AVPs one after the other

module _ (bytes : List ℕ) where
  begins_at : (v : PlainAvp) (p a end : ℕ) (front rest : List ℕ) → p ≤ a → a ≤ end → end ≤ length bytes → Spells v front → between bytes p a ≡ front ++ rest
      → BeginsWith v (between bytes p end) (rest ++ between bytes a end) × (p + padded_length v ≤ a) × (between bytes (p + padded_length v) a ≡ rest)
  begins_at v p a end front rest le le' within spells parts =
      let o = opened v front [] spells in
      let size = length-between bytes p a le (omega (arith, le', within)) in
      let all : length (between bytes p a) ≡ length front + length rest = ap length parts ∙ length-append front rest in
      let next : p + padded_length v ≤ a = omega (arith, size, all, o.front_length, le) in (
        (front, spells, between-split bytes p a end le le' ∙ ap (λ (t : List ℕ). t ++ between bytes a end) parts ∙ append_assoc front rest (between bytes a end)),
        next,
        second_part bytes front rest p (p + padded_length v) a (omega arith) next (omega (arith, le', within)) parts (omega (arith, o.front_length)),
      )

  same_place : (p a : ℕ) → p ≤ a → a ≤ length bytes → between bytes p a ≡ [] → p ≡ a
  same_place p a le within none = let size = length-between bytes p a le within in let e = ap length none in omega (arith, size, e, le)

  -- of two places after AVPs of one level, an AVP begins at the earlier one and ends at or before the later one
  occurs_at : (e f : List PlainAvp) (p a b end : ℕ) → p ≤ a → a < b → b ≤ end → end ≤ length bytes → SpellsAll e (between bytes p a) → SpellsAll f (between bytes p b)
      → (w : PlainAvp) × (rest : List ℕ) × BeginsWith w (between bytes a end) rest × (a + padded_length w ≤ b)
  occurs_at e [] p a b end le less le' within se sf =
      let same = same_place p b (omega (arith, le, less)) (omega (arith, le', within)) sf in absurd (omega (arith, same, le, less))
  occurs_at [] (w ∷ f) p a b end le less le' within se (front, rest, spells, parts, others) =
      let same = same_place p a le (omega (arith, less, le', within)) se in
      let (begins, next, cut) = begins_at w p b end front rest (omega (arith, le, less)) le' within spells parts in
      (w, rest ++ between bytes b end, subst (λ (n : ℕ). BeginsWith w (between bytes n end) (rest ++ between bytes b end)) same begins, omega (arith, same, next))
  occurs_at (v ∷ e) (w ∷ f) p a b end le less le' within (front, rest, spells, parts, others) (front', rest', spells', parts', others') =
      let (begins, next, cut) = begins_at v p a end front rest le (omega (arith, less, le')) within spells parts in
      let (begins', next', cut') = begins_at w p b end front' rest' (omega (arith, le, less)) le' within spells' parts' in
      let same = (one_front (between bytes p end) v w (rest ++ between bytes a end) (rest' ++ between bytes b end) begins begins').0 in
      let there : between bytes (p + padded_length v) b ≡ rest' = ap (λ (x : PlainAvp). between bytes (p + padded_length x) b) same ∙ cut' in
      occurs_at e f (p + padded_length v) a b end next less le' within (subst (SpellsAll e) (sym cut) others) (subst (SpellsAll f) (sym there) others')

  in_order : (e f : List PlainAvp) (p a b end : ℕ) (v : PlainAvp) (rest : List ℕ) → p ≤ a → a < b → b ≤ end → end ≤ length bytes → SpellsAll e (between bytes p a) → SpellsAll f (between bytes p b)
      → BeginsWith v (between bytes a end) rest → a + padded_length v ≤ b
  in_order e f p a b end v rest le less le' within se sf begins =
      let (w, more, begins', next) = occurs_at e f p a b end le less le' within se sf in
      let same = ap padded_length (one_front (between bytes a end) v w rest more begins begins').0 in
      omega (arith, same, next)

  member_end : (l : Level) (earlier : List PlainAvp) (v : PlainAvp) (at : ℕ) → l.end ≤ length bytes → IsMember bytes l earlier v at → (at < l.end) × (at + padded_length v ≤ l.end)
  member_end l earlier v at within m =
      let (front, spells, parts) = m.here in
      let o = opened v front [] spells in
      let all : length (between bytes at l.end) ≡ length front + length m.rest = ap length parts ∙ length-append front m.rest in
      let cut = length-take (l.end - at) (drop at bytes) in
      let left = length-drop at bytes in
      let round = rounded-le (avp_length v) in
      (omega (arith, all, o.front_length, cut, left, round, at_least_8 v.vendor), omega (arith, all, o.front_length, cut, left, round, at_least_8 v.vendor, within))

-- ---- open levels

-- a group in a level of this depth
abbrev inner : ℕ → PlainAvp → ℕ → PlainDefinition → Level
inner depth v at g = record { rules = g.rules; start = at + head_length v.vendor; end = at + avp_length v; depth = suc depth }

-- one of two levels ends before the other begins
abbrev AreApart : Level → Level → Type 0
AreApart a b = (a.end ≤ b.start) ⊎ (b.end ≤ a.start)

abbrev pub Holds : Level → ℕ → Type 0
Holds l n = (l.start ≤ n) × (n < l.end)

one_command : (d : Dictionary) (bytes : List ℕ) (c k : ℕ) (a b : PlainDefinition) → IsCommandOf d bytes c a → IsCommandOf d bytes k b → a ≡ b
one_command d bytes c k a b x y =
    let h = (one_header x.header y.header (length bytes) (length bytes) (take 20 bytes) x.head y.head).0 in
    let same = same_Some c k (sym x.select ∙ ap (λ (z : Header). selected d z.code (class_of z.flags) z.app) h ∙ y.select) in
    same_Some a b (sym x.is_command ∙ ap (λ (n : ℕ). slice_get (definitions d) n) same ∙ y.is_command)

limit_inside : (most : Levels) (depth : ℕ) → MayOpen most depth → IsWithinLimit most (suc depth + 1)
limit_inside Any depth may = tt
limit_inside (AtMost m) depth may = omega (arith, may)

limit_body : (most : Levels) → IsWithinLimit most (0 + 1)
limit_body Any = tt
limit_body (AtMost m) = omega arith

module _ (d : Dictionary) (most : Levels) (bytes : List ℕ) where
  pub least_start : (l : Level) → IsOpen d most bytes l → 20 + 8 * l.depth ≤ l.start
  least_start l (levels.body c command is) = omega arith
  least_start l (levels.group p e v at g op m is may) = let ih = least_start p op in let from = m.inside in let size = at_least_8 v.vendor in omega (arith, ih, from, size)

  pub within_limit : (l : Level) → IsOpen d most bytes l → IsWithinLimit most (l.depth + 1)
  within_limit l (levels.body c command is) = limit_body most
  within_limit l (levels.group p e v at g op m is may) = limit_inside most p.depth may

  siblings : (l : Level) (e f : List PlainAvp) (v w : PlainAvp) (a b : ℕ) (g h : PlainDefinition) (depth : ℕ) → l.depth ≡ depth → l.end ≤ length bytes → IsMember bytes l e v a → IsMember bytes l f w b
      → option_and_then (λ (x : DictEntry). x.group) (known d (key_of v)) ≡ Some g → option_and_then (λ (x : DictEntry). x.group) (known d (key_of w)) ≡ Some h
      → (inner l.depth v a g ≡ inner depth w b h) ⊎ AreApart (inner l.depth v a g) (inner depth w b h)
  siblings l e f v w a b g h depth deep within m k is_g is_h = by (nat_cases a b)
    where
      by : (a < b) ⊎ ((b < a) ⊎ (a ≡ b)) → (inner l.depth v a g ≡ inner depth w b h) ⊎ AreApart (inner l.depth v a g) (inner depth w b h)
      by (inl less) =
          let to = (member_end bytes l f w b within k).0 in
          let next = in_order bytes e f l.start a b l.end v m.rest m.inside less (omega (arith, to)) within m.before k.before m.here in
          let round = rounded-le (avp_length v) in
          inr (inl (omega (arith, next, round)))
      by (inr (inl more)) =
          let to = (member_end bytes l e v a within m).0 in
          let next = in_order bytes f e l.start b a l.end w k.rest k.inside more (omega (arith, to)) within k.before m.before k.here in
          let round = rounded-le (avp_length w) in
          inr (inr (omega (arith, next, round)))
      by (inr (inr same)) =
          let one = (one_front (between bytes b l.end) v w m.rest k.rest (subst (λ (n : ℕ). BeginsWith v (between bytes n l.end) m.rest) same m.here) k.here).0 in
          let def = same_Some g h (sym is_g ∙ ap (λ (x : PlainAvp). option_and_then (λ (y : DictEntry). y.group) (known d (key_of x))) one ∙ is_h) in
          inl (ap (λ (x : PlainDefinition). inner l.depth v a x) def ∙ ap (λ (n : ℕ). inner l.depth v n h) same ∙ ap (λ (x : PlainAvp). inner l.depth x b h) one
          ∙ ap (λ (n : ℕ). inner n w b h) deep)

  module _ (good : HasGoodHeader d bytes) where
    bounds : (u : Unknown) (l : Level) → IsOpen d most bytes l → (l.start ≤ l.end) × (l.end ≤ length bytes)
    bounds u l op = open_bounds d u most bytes good l op

    apart : (u : Unknown) (a b : Level) → IsOpen d most bytes a → IsOpen d most bytes b → a.depth ≡ b.depth → (a ≡ b) ⊎ AreApart a b
    apart u a b (levels.body c command is) (levels.body k other is') same =
        inl (ap (λ (x : PlainDefinition). record { rules = x.rules; start = 20; end = length bytes; depth = 0 }) (one_command d bytes c k command other is is'))
    apart u a b (levels.body c command is) (levels.group p f w at h op m is' may) same = absurd (omega (arith, same))
    apart u a b (levels.group p e v at g op m is may) (levels.body k other is') same = absurd (omega (arith, same))
    apart u a b (levels.group p e v at g op m is may) (levels.group q f w to h op' m' is' may') same = by (apart u p q op op' (omega (arith, same)))
      where
        by : (p ≡ q) ⊎ AreApart p q → (inner p.depth v at g ≡ inner q.depth w to h) ⊎ AreApart (inner p.depth v at g) (inner q.depth w to h)
        by (inl one) = siblings p e f v w at to g h q.depth (ap (λ (x : Level). x.depth) one) (bounds u p op).1 m (subst (λ (x : Level). IsMember bytes x f w to) (sym one) m') is is'
        by (inr (inl before)) =
            let end = (member_end bytes p e v at (bounds u p op).1 m).1 in let round = rounded-le (avp_length v) in let from = m'.inside in
            inr (inl (omega (arith, before, end, round, from)))
        by (inr (inr after)) =
            let end = (member_end bytes q f w to (bounds u q op').1 m').1 in let round = rounded-le (avp_length w) in let from = m.inside in
            inr (inr (omega (arith, after, end, round, from)))

    one_at : (u : Unknown) (n : ℕ) (a b : Level) → IsOpen d most bytes a → IsOpen d most bytes b → a.depth ≡ b.depth → Holds a n → Holds b n → a ≡ b
    one_at u n a b x y same (from, to) (from', to') = by (apart u a b x y same)
      where
        by : (a ≡ b) ⊎ AreApart a b → a ≡ b
        by (inl e) = e
        by (inr (inl before)) = absurd (omega (arith, before, to, from'))
        by (inr (inr after)) = absurd (omega (arith, after, to', from))

    -- the level round a group holds what the group holds
    round_holds : (u : Unknown) (n : ℕ) (p : Level) (e : List PlainAvp) (v : PlainAvp) (at : ℕ)
        → IsOpen d most bytes p → IsMember bytes p e v at → at + head_length v.vendor ≤ n → n < at + avp_length v → Holds p n
    round_holds u n p e v at op m from to =
        let end = (member_end bytes p e v at (bounds u p op).1 m).1 in let round = rounded-le (avp_length v) in let start = m.inside in
        (omega (arith, start, from), omega (arith, to, end, round))

    -- the level and those round it
    abbrev pub chain : (l : Level) → IsOpen d most bytes l → List Level
    chain l (levels.body c command is) = l ∷ []
    chain l (levels.group p e v at g op m is may) = l ∷ chain p op

    pub chain_size : (l : Level) (op : IsOpen d most bytes l) → length (chain l op) ≡ l.depth + 1
    chain_size l (levels.body c command is) = omega arith
    chain_size l (levels.group p e v at g op m is may) = let ih = chain_size p op in omega (arith, ih)

    pub chain_at : (u : Unknown) (n : ℕ) (l : Level) (op : IsOpen d most bytes l)
        → Holds l n → (i : ℕ) (x : Level) → slice_get (chain l op) i ≡ Some x → IsOpen d most bytes x × Holds x n × (x.depth + i ≡ l.depth)
    chain_at u n l (levels.body c command is) holds zero x at =
        let e = same_Some l x at in subst (λ (y : Level). IsOpen d most bytes y × Holds y n × (y.depth + 0 ≡ l.depth)) e (levels.body c command is, holds, omega arith)
    chain_at u n l (levels.body c command is) holds (suc i) x at = absurd (none-some x at)
    chain_at u n l (levels.group p e v at g op m is may) holds zero x here =
        let same = same_Some l x here in subst (λ (y : Level). IsOpen d most bytes y × Holds y n × (y.depth + 0 ≡ l.depth)) same (levels.group p e v at g op m is may, holds, omega arith)
    chain_at u n l (levels.group p e v at g op m is may) (from, to) (suc i) x here =
        let (is_open, holds, depth) = chain_at u n p op (round_holds u n p e v at op m from to) i x here in
        (is_open, holds, omega (arith, depth))

    -- each level that holds the place and isn't deeper is one of them
    find : (u : Unknown) (n : ℕ) (l : Level) (op : IsOpen d most bytes l) → Holds l n → (x : Level) → IsOpen d most bytes x → Holds x n → (x.depth < l.depth) ⊎ (x.depth ≡ l.depth)
        → (i : ℕ) × (slice_get (chain l op) i ≡ Some x)
    find u n l (levels.body c command is) holds x is_open in_x (inl less) = absurd (omega (arith, less))
    find u n l (levels.body c command is) holds x is_open in_x (inr same) =
        (0, ap (λ (y : Level). Some y) (one_at u n l x (levels.body c command is) is_open (sym same) holds in_x))
    find u n l (levels.group p e v at g op m is may) (from, to) x is_open in_x (inl less) =
        let (i, here) = find u n p op (round_holds u n p e v at op m from to) x is_open in_x (le_split x.depth p.depth (omega (arith, less))) in (suc i, here)
    find u n l (levels.group p e v at g op m is may) holds x is_open in_x (inr same) =
        (0, ap (λ (y : Level). Some y) (one_at u n l x (levels.group p e v at g op m is may) is_open (sym same) holds in_x))

    -- no group in a level holds the place
    abbrev pub NoneInside : Level → ℕ → Type 0
    NoneInside l n = (e : List PlainAvp) (v : PlainAvp) (at : ℕ) (g : PlainDefinition) → IsMember bytes l e v at → option_and_then (λ (x : DictEntry). x.group) (known d (key_of v)) ≡ Some g
        → at + head_length v.vendor ≤ n → n < at + avp_length v → ⊥

    deeper : (u : Unknown) (n : ℕ) (l : Level) → IsOpen d most bytes l → Holds l n → NoneInside l n → (x : Level) → IsOpen d most bytes x → Holds x n → l.depth < x.depth → ⊥
    deeper u n l is_open holds none x (levels.body c command is) in_x less = omega (arith, less)
    deeper u n l is_open holds none x (levels.group p e v at g op m is may) (from, to) less =
        by (λ more. deeper u n l is_open holds none p op (round_holds u n p e v at op m from to) more) (le_split l.depth p.depth (omega (arith, less)))
      where
        in_p : Holds p n
        in_p = round_holds u n p e v at op m from to

        by : (l.depth < p.depth → ⊥) → (l.depth < p.depth) ⊎ (l.depth ≡ p.depth) → ⊥
        by inside (inl more) = inside more
        by inside (inr same) = none e v at g (subst (λ (y : Level). IsMember bytes y e v at) (one_at u n p l op is_open (sym same) in_p holds) m) is from to

    pub all_of_them : (u : Unknown) (n : ℕ) (l : Level) (op : IsOpen d most bytes l) → Holds l n → NoneInside l n → (x : Level) → IsOpen d most bytes x → Holds x n → Contains (chain l op) x
    all_of_them u n l op holds none x is_open in_x = by (nat_cases l.depth x.depth)
      where
        by : (l.depth < x.depth) ⊎ ((x.depth < l.depth) ⊎ (l.depth ≡ x.depth)) → Contains (chain l op) x
        by (inl less) = absurd (deeper u n l op holds none x is_open in_x less)
        by (inr (inl more)) = let (i, here) = find u n l op holds x is_open in_x (inl more) in contains_at (chain l op) i x here
        by (inr (inr same)) = let (i, here) = find u n l op holds x is_open in_x (inr (sym same)) in contains_at (chain l op) i x here

    pub each_holds : (u : Unknown) (n : ℕ) (l : Level) (op : IsOpen d most bytes l) → Holds l n → (x : Level) → Contains (chain l op) x → IsOpen d most bytes x × Holds x n
    each_holds u n l op holds x has =
        let r = at_Contains (chain l op) x has in
        let (is_open, in_x, depth) = chain_at u n l op holds r.place x r.at in (is_open, in_x)

    pub each_once : (u : Unknown) (n : ℕ) (l : Level) (op : IsOpen d most bytes l) → Holds l n → (i j : ℕ) (x : Level) → slice_get (chain l op) i ≡ Some x → slice_get (chain l op) j ≡ Some x → i ≡ j
    each_once u n l op holds i j x at at' =
        let (a, b, depth) = chain_at u n l op holds i x at in
        let (a', b', depth') = chain_at u n l op holds j x at' in
        omega (arith, depth, depth')

-- ---- the level of a part

module _ (d : Dictionary) (sound : IsDictionary d) (u : Unknown) (most : Levels) (bytes : List ℕ) (good : HasGoodHeader d bytes) (o : OpenLevels) where
  -- the place lies in a level in which no group holds it
  pub record IsDeepest (n depth : ℕ) : Type 0 where
    pub level : Level
    pub is_open : IsOpen d most bytes level
    pub holds : Holds level n
    pub is_depth : level.depth ≡ depth
    pub none_inside : NoneInside d most bytes good level n

  seen_group : (leaf : Option LeafState) (key : Key) (read : List ℕ) (v : PlainAvp) (e : DictEntry) (g : PlainDefinition)
      → key ≡ key_of v → HasSeen d leaf key read → known d (key_of v) ≡ Some e → e.group ≡ Some g → ⊥
  seen_group None key read v e g same seen is is_group = none-some e (sym seen ∙ ap (λ (k : Key). known d k) same ∙ is)
  seen_group (Some state) key read v e g same (f, is_f, single, occurs) is is_group =
      let one = same_Some f e (sym is_f ∙ ap (λ (k : Key). known d k) same ∙ is) in
      let some : IsSome e.group = subst (λ (x : Option PlainDefinition). IsSome x) (sym is_group) refl in
      single (ap (λ (x : DictEntry). x.format) one ∙ (grouped_at d sound u most v e is).1 some)

  module _ (part : DataPart) (n : ℕ) (h : IsInData d u most bytes good o part n) (less : n < part.next) where
    abbrev l : Lies d u most bytes good h.under_way.s
    l = (last d sound u most bytes good h.before part.at h.under_way).1.lies

    here_data : BeginsWith h.avp (between bytes h.under_way.s.at h.under_way.s.level.end) h.rest
    here_data = subst (λ (t : List ℕ). BeginsWith h.avp t h.rest) (sym l.here) h.begins

    data_end : (h.under_way.s.level.start ≤ n) × (n < h.under_way.s.level.end)
    data_end =
        let room = begun_room d u most h.under_way.s h.avp h.rest h.begins in
        let at = h.under_way.here in let size = l.size in let next = h.is_next in let from = l.from in let head = h.from in
        (omega (arith, from, at, head), omega (arith, room, size, at, next, less))

    data_none : NoneInside d most bytes good h.under_way.s.level n
    data_none e v at g m is from to = by (nat_cases at h.under_way.s.at)
      where
        place : h.under_way.s.at ≡ part.at
        place = h.under_way.here

        by : (at < h.under_way.s.at) ⊎ ((h.under_way.s.at < at) ⊎ (at ≡ h.under_way.s.at)) → ⊥
        by (inl before) =
            let next = in_order bytes e h.under_way.s.earlier h.under_way.s.level.start at h.under_way.s.at h.under_way.s.level.end v m.rest m.inside before
            (let size = l.size in omega (arith, size)) l.within m.before l.before m.here in
            let round = rounded-le (avp_length v) in let head = h.from in omega (arith, next, round, to, place, head)
        by (inr (inl after)) =
            let room = (member_end bytes h.under_way.s.level e v at l.within m).0 in
            let next = in_order bytes h.under_way.s.earlier e h.under_way.s.level.start
            h.under_way.s.at at h.under_way.s.level.end h.avp h.rest l.from after (omega (arith, room)) l.within l.before m.before here_data in
            let is_next = h.is_next in omega (arith, next, is_next, from, place, less)
        by (inr (inr same)) =
            let one = (one_front (between bytes h.under_way.s.at h.under_way.s.level.end) v h.avp m.rest h.rest
            (subst (λ (k : ℕ). BeginsWith v (between bytes k h.under_way.s.level.end) m.rest) same m.here) here_data).0 in
            let (entry, is_known, is_group) = entry_of_group d sound u most v g (known d (key_of v)) refl is in
            seen_group part.leaf part.key _ v entry g (h.is_key ∙ ap key_of (sym one)) h.seen is_known is_group

    data_deepest : IsDeepest n (length (map so_far h.under_way.rests))
    data_deepest = record {
      level = h.under_way.s.level;
      is_open = l.open_level;
      holds = data_end;
      is_depth = sym (deep d sound u most bytes good h.before part.at h.under_way);
      none_inside = data_none;
    }

  module _ (part : HeadPart) (n : ℕ) (h : IsInHead d u most bytes good o part n) where
    abbrev k : Lies d u most bytes good h.under_way.s
    k = (last d sound u most bytes good o part.at h.under_way).1.lies

    reached : (part.at ≤ n) × (length (front_bytes part.front) ≡ n - part.at)
    reached = let r = h.reached in (omega (arith, r), omega (arith, r))

    to_end : o.innermost.end ≡ h.under_way.s.level.end
    to_end = h.under_way.occurs.innermost.is_end

    -- no AVP of which the head lies in what was read begins at the place
    not_here : (v : PlainAvp) (rest : List ℕ) → BeginsWith v (between bytes part.at h.under_way.s.level.end) rest → part.at + head_length v.vendor ≤ n → ⊥
    not_here v rest begins le = h.not_whole (long, whole)
      where
        size : length (front_bytes part.front) ≡ n - part.at
        size = reached.1

        long : 8 ≤ length (front_bytes part.front)
        long = let s = size in let least = at_least_8 v.vendor in omega (arith, s, le, least)

        room : 8 ≤ h.under_way.s.level.end - part.at
        room = let r = h.room in let e = to_end in omega (arith, r, e)

        level_long : 8 ≤ length (between bytes part.at h.under_way.s.level.end)
        level_long = let r = room in let w = k.within in let t = length-take (h.under_way.s.level.end - part.at) (drop part.at bytes) in let c = length-drop part.at bytes in omega (arith, r, w, t, c)

        flags : slice_index (front_bytes part.front) 4 ≡ v.flags
        flags =
            let s = size in let l = long in let r = room in
            ap (λ (t : List ℕ). slice_index t 4) h.kept ∙ get_or-take (n - part.at) (drop part.at bytes) 4 0 (omega (arith, s, l))
            ∙ sym (get_or-take (h.under_way.s.level.end - part.at) (drop part.at bytes) 4 0 (omega (arith, r)))
            ∙ (first_says (between bytes part.at h.under_way.s.level.end) v rest level_long begins).0

        whole : HasVendorFlag (slice_index (front_bytes part.front) 4) → 12 ≤ length (front_bytes part.front)
        whole f =
            let (front, spells, parts) = begins in
            let wide = with_vendor v.flags (subst HasVendorFlag flags f) v.vendor spells.agrees in
            let s = size in omega (arith, s, wide, le)

    not_at : (v : PlainAvp) (rest : List ℕ) → BeginsWith v (between bytes h.under_way.s.at h.under_way.s.level.end) rest → h.under_way.s.at + head_length v.vendor ≤ n → ⊥
    not_at v rest begins le =
        not_here v rest (subst (λ (j : ℕ). BeginsWith v (between bytes j h.under_way.s.level.end) rest) h.under_way.here begins) (let place = h.under_way.here in omega (arith, place, le))

    head_none : NoneInside d most bytes good h.under_way.s.level n
    head_none e v at g m is from to = by (nat_cases at h.under_way.s.at)
      where
        place : h.under_way.s.at ≡ part.at
        place = h.under_way.here

        by : (at < h.under_way.s.at) ⊎ ((h.under_way.s.at < at) ⊎ (at ≡ h.under_way.s.at)) → ⊥
        by (inl before) =
            let next = in_order bytes e h.under_way.s.earlier h.under_way.s.level.start at h.under_way.s.at h.under_way.s.level.end v m.rest m.inside before
            (let size = k.size in omega (arith, size)) k.within m.before k.before m.here in
            let round = rounded-le (avp_length v) in let r = reached.0 in omega (arith, next, round, to, place, r)
        by (inr (inl after)) =
            let room = (member_end bytes h.under_way.s.level e v at k.within m).0 in
            let (w, rest, begins, next) = occurs_at bytes h.under_way.s.earlier e
            h.under_way.s.level.start h.under_way.s.at at h.under_way.s.level.end k.from after (omega (arith, room)) k.within k.before m.before in
            let round = rounded-le (avp_length w) in
            not_at w rest begins (omega (arith, next, round, from))
        by (inr (inr same)) = not_at v m.rest (subst (λ (j : ℕ). BeginsWith v (between bytes j h.under_way.s.level.end) m.rest) same m.here) (omega (arith, same, from))

    head_deepest : n < o.innermost.end → IsDeepest n (length (map so_far h.under_way.rests))
    head_deepest less = record {
      level = h.under_way.s.level;
      is_open = k.open_level;
      holds = (let from = k.from in let place = h.under_way.here in let r = reached.0 in let e = to_end in (omega (arith, from, place, r), omega (arith, less, e)));
      is_depth = sym (deep d sound u most bytes good o part.at h.under_way);
      none_inside = head_none;
    }

  -- how many levels are open round the innermost
  abbrev pub CountsOuter : ℕ → Type 0
  CountsOuter count = (outer : List SoFar) (level : SoFar) → AreOpen (definitions d) o outer level → count ≡ length outer

  pub part_deepest : (part : Part) (n : ℕ) → IsInPart d u most bytes good o part n → (count : ℕ) → CountsOuter count → IsDeepest n count
  part_deepest (Head part) n h count is =
      subst (IsDeepest n) (sym (is (map so_far h.under_way.rests) (so_far h.under_way.s) h.under_way.occurs)) (head_deepest part n h (head_before d sound u most bytes good o part n h))
  part_deepest (Data part) n (h, less) count is =
      subst (IsDeepest n) (sym (is (map so_far h.under_way.rests) (and_key (so_far h.under_way.s) (key_of h.avp)) h.occurs)) (data_deepest part n h less)
