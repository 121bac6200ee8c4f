-- In messages that are sent each level that both sides read is reached, and so are its AVPs.
use Rattle.std.proofs.Common.{◌≡◌, ℕ, zero, suc, ◌+◌, ◌-◌, ◌<◌, ◌≤◌, List, [], ◌∷◌, ◌++◌, length, map, Option, Some, None, refl, sym, ap, subst, ◌∙◌, arith, inl, inr}
use Rattle.std.specs.Prelude.{Bool, false, ◌||◌, is_some, IsSome, MatchOption, Contains, slice_get, option_and_then}
use Rattle.std.specs.List.{AllByRecursion}
use Rattle.std.specs.Option.{option_map, option_map_or}
use Rattle.std.proofs.lemmas.Option.{none-some, slice_get_within}
use Rattle.dia_wire.specs.declared.Key.{Key}
use Rattle.dia_wire.specs.Wire.{PlainAvp, key_of, avp_length, Spells, SpellsAll}
use Rattle.dia_wire.proofs.Spelling.{opened, rounded-le, at_least_8, one_spelling}
use Rattle.std.proofs.lemmas.List.{append_cancel_left, length-append}
use Rattle.dia_data.specs.Leaf.{IsLeaf}
use Rattle.dia_book.specs.declared.DRule.{DRule}
use Rattle.dia_book.specs.Dictionary.{Dictionary, DictEntry, PlainDefinition, IsDictionary, definitions, entry_of}
use Rattle.dia_book.proofs.Members.{at_Contains, into_map}
use Rattle.dia_terms.specs.declared.Unknown.{Unknown}
use Rattle.dia_terms.specs.declared.Sends.{Sends}
use Rattle.dia_valid.specs.Valid.{known, is_listed, IsAccepted, MHolds}
use Rattle.dia_valid.specs.Valid.{group_at}
use Rattle.dia_valid.proofs.Members.{IsIn, in_contains, there_is}
use Rattle.dia_valid.proofs.GroupNumbers.{group_there}
use Rattle.dia_valid.proofs.KnownKeys.{known_by_entry}
use Rattle.dia_breaking_sites.specs.Sent.{own_policy, StandAsSent, IsSentLevel, IsSentWithin}
use Rattle.dia_breaking_sites.specs.Sites.{AboutLevels, IsLevelOf, LiesIn, same, inside}
use Rattle.dia_breaking_sites.specs.Selection.{max_body}
use Rattle.dia_breaking_sites.proofs.Members.{in_all}
use Rattle.dia_breaking_avps.specs.Sent.{group_of}
use Rattle.dia_breaking_shortest.specs.Floors.{AreFloors, shortest_head, total}
use Rattle.dia_breaking_shortest.proofs.BytesOfAvps.{data_bytes}
use Rattle.dia_breaking_ways.specs.Walks.{Graph, IsWalk, IsReached, IsNoLater, Leads, PlainExits, PlainLevel, PlainNode, Stage, is_by_wildcard, level_of, stage_at, stage_by, stage_of, step_to}
use Rattle.dia_breaking_ways.specs.declared.graph.Step.{Step}
use Rattle.dia_breaking_ways.specs.declared.graph.Reach.{Reach}
use Rattle.dia_breaking.specs.declared.exits.Exits.{Exits}
use Rattle.dia_breaking.specs.declared.exits.Inner.{Inner}
use Rattle.dia_breaking.specs.declared.exits.Outlook.{Outlook}
use Rattle.dia_breaking.specs.declared.keys.Recording.{Recording}
use Rattle.dia_breaking.specs.Exits.{AreExits, AreOutlooks, IsInner, IsInnerOrNone}
use Rattle.dia_breaking.specs.Lengths.{costs_by, other_length}
use Rattle.dia_breaking.specs.LevelCosts.{PicksShortest}
use Rattle.dia_breaking.specs.Nodes.{exits_in, level_in, node_in}
use Rattle.dia_breaking.specs.Outlooks.{group_rules}
use Rattle.dia_breaking.specs.Taken.{AreGroups}
use Rattle.dia_breaking.specs.Recording.{IsExactRecording}
use Rattle.dia_breaking.specs.Sides.{sides}
use Rattle.dia_breaking.proofs.SentLevels.{group_within, key_contained, sent_keys}
use Rattle.dia_breaking.proofs.Reached.{Kept, by_wildcard, cost, costs_at, group_kept, led, listed}
use Rattle.dia_breaking.proofs.Tellings.{no_group}

-- ---- the AVPs of bytes

begun : (v : PlainAvp) (front : List ℕ) → Spells v front → 0 < length front
begun v front s = let o = opened v front [] s in omega (arith, o.front_length, rounded-le (avp_length v), at_least_8 v.vendor)

pub one_list : (vs ws : List PlainAvp) (b : List ℕ) → SpellsAll vs b → SpellsAll ws b → vs ≡ ws
one_list [] [] b h k = refl
one_list [] (w ∷ ws) b h (front, rest, s, parts, all) = absurd (omega (arith, begun w front s, ap length h, ap length parts, length-append front rest))
one_list (v ∷ vs) [] b (front, rest, s, parts, all) k = absurd (omega (arith, begun v front s, ap length k, ap length parts, length-append front rest))
one_list (v ∷ vs) (w ∷ ws) b (f, x, s, p, all) (g, y, t, q, also) =
    let o = one_spelling v w f g x y s t (sym p ∙ q) in
    let rests : x ≡ y = append_cancel_left f x y (sym p ∙ q ∙ ap (λ (z : List ℕ). z ++ y) (sym o.1)) in
    let later : vs ≡ ws = one_list vs ws x all (subst (SpellsAll ws) (sym rests) also) in
    λ i. o.0 i ∷ later i

-- ---- groups

-- the level in an AVP that is sent
module _ (d : Dictionary) (who : Sends) (v : PlainAvp) (x : PlainDefinition) where
  level_by : (P : List DRule → List ℕ → Type 0) (o : Option DictEntry) → option_and_then (λ (e : DictEntry). e.group) o ≡ Some x
      → MatchOption o (IsAccepted (own_policy who) v.flags) (λ e. MHolds e.rule v.flags × MatchOption e.group (IsLeaf e.format v.bytes) (λ group. P group.rules v.bytes)) → P x.rules v.bytes
  level_by P None is h = absurd (none-some x is)
  level_by P (Some e) is h = subst (λ (o : Option PlainDefinition). MatchOption o (IsLeaf e.format v.bytes) (λ group. P group.rules v.bytes)) is h.1

  sent_inside : (n : ℕ) → group_at d v ≡ Some x → IsSentWithin d who n v → (m : ℕ) × IsSentLevel who (IsSentWithin d who m) x.rules v.bytes
  sent_inside zero is h = absurd (level_by (λ rules bytes. ⊥) (known d (key_of v)) is h)
  sent_inside (suc n) is h = (n, level_by (IsSentLevel who (IsSentWithin d who n)) (known d (key_of v)) is h)

-- the definition of a group has a number
group_def : (d : Dictionary) (key : Key) (x : PlainDefinition) (i : ℕ) → entry_of d key ≡ Some i → group_of d key ≡ Some x → (def : ℕ) × (slice_get (definitions d) def ≡ Some x)
group_def d key x i at is =
    let (e, here, knows) = known_by_entry d key i at in
    (_, (group_there d i e x here (sym (ap (λ (o : Option DictEntry). option_and_then (λ (e : DictEntry). e.group) o) knows) ∙ is)).1)

pub def_of : (d : Dictionary) (key : Key) (x : PlainDefinition) → group_of d key ≡ Some x → (def : ℕ) × (slice_get (definitions d) def ≡ Some x)
def_of d key x is = by (entry_of d key) refl
  where
    by : (o : Option ℕ) → entry_of d key ≡ o → (def : ℕ) × (slice_get (definitions d) def ≡ Some x)
    by None e = absurd (no_group d key e (ap (λ (o : Option PlainDefinition). is_some o) is))
    by (Some i) e = group_def d key x i e is

-- a key of the list takes no more than all
pub total_has : (f : Key → ℕ) (keys : List Key) (key : Key) → IsIn key keys → f key ≤ total f keys
total_has f [] key i = absurd i
total_has f (q ∷ keys) key (inl e) = let same : f key ≡ f q = ap f e in omega (arith, same)
total_has f (q ∷ keys) key (inr i) = let more = total_has f keys key i in omega (arith, more)

module _ (da db : Dictionary) (who : Sends) (u : Unknown) (lengths : List ℕ) (others : List Key) (recording : Recording) (outlooks : List Outlook) (records : IsExactRecording (sides da db who u) recording)
    (are : AreOutlooks da db recording (costs_by da who lengths others) outlooks) (sa : IsDictionary da) (shortest : PicksShortest da db (costs_by da who lengths others)) where
  abbrev floor : Key → ℕ
  floor = listed da db who u lengths others recording outlooks records are

  abbrev KeptAt : Key → Type 0
  KeptAt key = Kept da db who u lengths others recording outlooks records are key

  -- A knows the key of a group
  has_entry : (key : Key) (x : PlainDefinition) → group_of da key ≡ Some x → IsSome (entry_of da key)
  has_entry key x is = by (entry_of da key) refl
    where
      by : (o : Option ℕ) → entry_of da key ≡ o → IsSome (entry_of da key)
      by None e = absurd (no_group da key e (ap (λ (o : Option PlainDefinition). is_some o) is))
      by (Some i) e = ap (λ (o : Option ℕ). is_some o) e

  -- the level of the group to which the step of a number leads is read by these definitions
  pub record IsStepTo (steps : List Step) (number way : ℕ) (x y : PlainDefinition) : Type 0 where
    pub step : Step
    pub outlook : Outlook
    pub inner : Inner
    pub at : slice_get steps number ≡ Some step
    pub is_outlook : slice_get outlooks step.place ≡ Some outlook
    pub is_inner : outlook.inner ≡ Some inner
    pub is_way : way ≡ step.way
    pub is_sent : group_of da outlook.key ≡ Some x
    pub is_read : group_of db outlook.key ≡ Some y

  module _ (floors : AreFloors da who floor) (start : PlainExits) (steps : List Step) (reached : List (Option Reach)) (top under : PlainDefinition) where
    abbrev pub graph : Graph
    graph = record { nodes = map node_in outlooks; start = start; room = max_body }

    -- the start is read by the definitions of a command
    abbrev pub IsReadAt : ℕ → ℕ → PlainDefinition → PlainDefinition → Type 0
    IsReadAt zero way x y = (way ≡ 0) × (x ≡ top) × (y ≡ under)
    IsReadAt (suc number) way x y = IsStepTo steps number way x y

    -- the level is reached, with what its way leaves
    pub record AtLevel (x y : PlainDefinition) (avps : List PlainAvp) : Type 0 where
      pub number : ℕ
      pub def : ℕ
      pub stage : Stage
      pub exits : Exits
      pub is_stage : stage_at graph steps number ≡ Some stage
      pub stage_exits : stage.exits ≡ exits_in exits
      pub at_def : slice_get (definitions da) def ≡ Some x
      pub is_read : IsReadAt number stage.way x y
      pub are_exits : AreExits recording (costs_by da who lengths others) x.rules exits
      pub within : stage.way ≤ max_body
      pub level : IsLevelOf da who x.rules (max_body - stage.way) avps

    module _ (walk : IsWalk graph steps reached) where
      -- so is each AVP of it of which something is recorded
      abbrev pub Reaches : (x y : PlainDefinition) (avps : List PlainAvp) → AtLevel x y avps → ℕ → Type 0
      Reaches x y avps l place = (reach : Reach) × (slice_get reached place ≡ Some (Some reach)) × (reach.length ≤ l.stage.way + total floor (map key_of avps))

      module _ (x y : PlainDefinition) (avps : List PlainAvp) (l : AtLevel x y avps) where
        abbrev keys : List Key
        keys = map key_of avps

        sent_here : StandAsSent who x.rules keys × (total floor keys ≤ max_body - l.stage.way)
        sent_here = sent_keys da db who u floor floors x.rules (max_body - l.stage.way) avps l.level

        room_here : total floor keys ≤ max_body
        room_here = let room = sent_here.1 in omega (arith, room)

        abbrev LedTo : ℕ → Type 0
        LedTo place = (inner : ℕ) × Leads (map node_in outlooks) (exits_in l.exits) place inner × (inner ≤ total floor keys)

        way_by : (q : Key) (p : KeptAt q) → LedTo p.place → Reaches x y avps l p.place
        way_by q p leads = by there.0 there.1
          where
            own : Leads (map node_in outlooks) l.stage.exits p.place leads.0
            own = subst (λ (e : PlainExits). Leads (map node_in outlooks) e p.place leads.0) (sym l.stage_exits) leads.1

            is : IsReached graph steps p.place l.number (l.stage.way + leads.0) (is_by_wildcard own || l.stage.wild)
            is = record {
              stage = l.stage;
              inner = leads.0;
              is_stage = l.is_stage;
              leads = own;
              is_total = refl;
              is_wild = refl;
              has_room = let le = leads.2 in let room = sent_here.1 in let fits = l.within in omega (arith, le, room, fits);
            }

            there : (o : Option Reach) × (slice_get reached p.place ≡ Some o)
            there =
                let within = slice_get_within (map node_in outlooks) p.place (node_in p.outlook) (into_map node_in outlooks p.place p.outlook p.is_outlook) in
                let size : length reached ≡ length (map node_in outlooks) = walk.each in
                there_is reached p.place (omega (arith, within, size))

            no_later : (reach : Reach) (wild : Bool) → IsNoLater reach l.number (l.stage.way + leads.0) wild → reach.length ≤ l.stage.way + total floor keys
            no_later reach wild (inl less) = let le = leads.2 in omega (arith, less, le)
            no_later reach wild (inr (equal, later)) = let le = leads.2 in omega (arith, equal, le)

            by : (o : Option Reach) → slice_get reached p.place ≡ Some o → Reaches x y avps l p.place
            by None at = absurd (walk.shortest p.place None at l.number (l.stage.way + leads.0) (is_by_wildcard own || l.stage.wild) is)
            by (Some reach) at =
                let wild = is_by_wildcard own || l.stage.wild in
                (reach, at, no_later reach wild ((walk.shortest p.place (Some reach) at).1 l.number (l.stage.way + leads.0) wild is))

        pub way_of : (v : PlainAvp) → Contains avps v → (p : KeptAt (key_of v)) → Reaches x y avps l p.place
        way_of v comes p =
            way_by (key_of v) p
            (led da db who u lengths others recording outlooks records are x.rules l.exits (cost da db who u lengths others recording outlooks records are x.rules) l.are_exits.listed_are l.are_exits.beside
            (costs_at da db who u lengths others recording outlooks records are sa shortest l.def x l.at_def) keys sent_here.0 room_here (key_of v) (key_contained avps v comes) p)

        -- so is another that could come through the wildcard in the place of one
        pub way_beside : (v : PlainAvp) → Contains avps v → is_listed x.rules (key_of v) ≡ false → (q : Key) (p : KeptAt q) → is_listed x.rules q ≡ false
            → other_length da who lengths q ≤ other_length da who lengths (key_of v) → Reaches x y avps l p.place
        way_beside v comes none q p unlisted le =
            way_by q p
            (by_wildcard da db who u lengths others recording outlooks records are x.rules l.exits (cost da db who u lengths others recording outlooks records are x.rules) l.are_exits.listed_are l.are_exits.beside
            (costs_at da db who u lengths others recording outlooks records are sa shortest l.def x l.at_def) keys sent_here.0 room_here (key_of v) (key_contained avps v comes) none q p unlisted le)

      -- ---- the level in a group

      module _ (x y : PlainDefinition) (avps : List PlainAvp) (l : AtLevel x y avps) (v : PlainAvp) (g h : PlainDefinition) (next : List PlainAvp) (comes : Contains avps v) (is_g : group_at da v ≡ Some g)
          (is_h : group_at db v ≡ Some h) (spelled : SpellsAll next v.bytes) where
        abbrev key : Key
        key = key_of v

        both : AreGroups da db key
        both = (ap (λ (o : Option PlainDefinition). is_some o) is_g, ap (λ (o : Option PlainDefinition). is_some o) is_h)

        p : KeptAt key
        p = group_kept da db who u lengths others recording outlooks records are key (has_entry key g is_g) both

        way : Reaches x y avps l p.place
        way = way_of x y avps l v comes p

        def_here : (def : ℕ) × (slice_get (definitions da) def ≡ Some g)
        def_here = def_of da key g is_g

        sent : (m : ℕ) × IsSentLevel who (IsSentWithin da who m) g.rules v.bytes
        sent = sent_inside da who v g l.level.sent.0 is_g (in_all (IsSentWithin da who l.level.sent.0) avps v l.level.sent.1 (in_contains avps v comes))

        next_level : (room : ℕ) → length v.bytes ≤ room → IsLevelOf da who g.rules room next
        next_level room fits =
            let (m, found) = sent in
            let (avps', spelled', stand, all) = found in
            let one : avps' ≡ next = one_list avps' next v.bytes spelled' spelled in
            record {
              bytes = v.bytes;
              are_bytes = data_bytes avps l.level.bytes v l.level.spelled l.level.are_bytes (in_contains avps v comes);
              spelled = spelled;
              has_room = fits;
              stand = subst (λ (vs : List PlainAvp). StandAsSent who g.rules (map key_of vs)) one stand;
              sent = (m, subst (λ (vs : List PlainAvp). AllByRecursion (IsSentWithin da who m) vs) one all);
            }

        -- by the level that is recorded of it
        by_inner : (inner : Inner) → p.outlook.inner ≡ Some inner → IsInner da recording (costs_by da who lengths others) p.outlook.key inner → AtLevel g h next
        by_inner inner is_inner is =
            let reach = way.0 in
            let level : PlainLevel = level_in inner in
            let node : level_of graph p.place ≡ Some level =
            ap (λ (o : Option PlainNode). option_and_then (λ (n : PlainNode). n.level) o) (into_map node_in outlooks p.place p.outlook p.is_outlook) ∙ ap (λ (o : Option Inner). option_map level_in o) is_inner in
            let step : Step = step_to p.place level reach in
            let j = at_Contains steps step (walk.to_all p.place level reach node way.1) in
            let stage : Stage = stage_by step level in
            let staged : stage_at graph steps (suc j.place) ≡ Some stage =
            ap (λ (o : Option Step). option_and_then (stage_of graph) o) j.at
            ∙ ap (λ (o : Option PlainLevel). option_map (stage_by step) o) node in
            let rules : group_rules da p.outlook.key ≡ g.rules =
            ap (λ (q : Key). group_rules da q) p.outlook_key ∙ ap (λ (o : Option PlainDefinition). option_map_or (λ (group : PlainDefinition). group.rules) o []) is_g in
            let least : inner.least ≡ floor key - shortest_head key = is.least ∙ ap (λ (q : Key). floor q - shortest_head q) p.outlook_key in
            let taken : step.way ≡ reach.length - inner.least = refl in
            let shorter = way.2 in
            let keep = sent_keys da db who u floor floors x.rules (max_body - l.stage.way) avps l.level in
            let room = keep.1 in
            let fits = l.within in
            let beside = group_within da db who u floor floors x.rules (max_body - l.stage.way) avps v l.level comes in
            let has = total_has floor (map key_of avps) key (in_contains (map key_of avps) key (key_contained avps v comes)) in
            record {
              number = suc j.place;
              def = def_here.0;
              stage = stage;
              exits = inner.exits;
              is_stage = staged;
              stage_exits = refl;
              at_def = def_here.1;
              is_read = record {
                step = step;
                outlook = p.outlook;
                inner = inner;
                at = j.at;
                is_outlook = p.is_outlook;
                is_inner = is_inner;
                is_way = refl;
                is_sent = ap (λ (q : Key). group_of da q) p.outlook_key ∙ is_g;
                is_read = ap (λ (q : Key). group_of db q) p.outlook_key ∙ is_h;
              };
              are_exits = subst (λ (rs : List DRule). AreExits recording (costs_by da who lengths others) rs inner.exits) rules is.exits;
              within = omega (arith, taken, shorter, room, fits);
              level = next_level (max_body - step.way) (omega (arith, taken, least, shorter, room, fits, beside, has));
            }

        pub level_inside : AtLevel g h next
        level_inside = by p.outlook.inner refl p.has.inner_is
          where
            by : (o : Option Inner) → p.outlook.inner ≡ o → IsInnerOrNone da db recording (costs_by da who lengths others) p.outlook.key o → AtLevel g h next
            by None e none = absurd (none (subst (λ (q : Key). AreGroups da db q) (sym p.outlook_key) both))
            by (Some inner) e (groups, is) = by_inner inner e is

      -- ---- each level

      pub each_level : (Asked : AboutLevels) → ((x y : PlainDefinition) (avps : List PlainAvp) → AtLevel x y avps → Asked x y avps) → (a b : PlainDefinition) (inner : List PlainAvp) (x y : PlainDefinition)
          (avps : List PlainAvp)
          → LiesIn da db a b inner x y avps → AtLevel x y avps → Asked a b inner
      each_level Asked asked a b inner x y avps same l = asked a b inner l
      each_level Asked asked a b inner x y avps (inside v g h next comes is_g is_h spelled lies) l =
          each_level Asked asked a b inner g h next lies (level_inside x y avps l v g h next comes is_g is_h spelled)
