-- What is listed of AVPs that break by themselves is one.
use Rattle.std.proofs.Common.{◌≡◌, ℕ, zero, suc, ◌+◌, ◌-◌, Bool, true, false, List, [], ◌∷◌, map, length, Option, Some, None, refl, sym, ap, subst, ◌∙◌, arith}
use Rattle.std.specs.Prelude.{◌++◌, All, IsSome, IsTrue, ◌↔◌, is_some, slice_get, option_and_then, option_to_list, unwrap_or, ⊤}
use Rattle.std.specs.List.{filter_map}
use Rattle.std.specs.Option.{option_map, option_map_or}
use Rattle.std.proofs.lemmas.Bool.{both_ways}
use Rattle.std.proofs.lemmas.List.Elements.{All-head, All-tail}
use Rattle.dia_wire.specs.declared.Key.{Key}
use Rattle.dia_book.specs.Dictionary.{Dictionary, DictEntry, PlainDefinition}
use Rattle.dia_valid.specs.Valid.{known}
use Rattle.dia_terms.specs.declared.Unknown.{Unknown}
use Rattle.dia_terms.specs.declared.Sends.{Sends}
use Rattle.dia_breaking_data.specs.Shortest.{witness_bytes}
use Rattle.dia_breaking_avps.specs.declared.breaking.AvpBreaks.{AvpBreaks}
use Rattle.dia_breaking_avps.specs.declared.breaking.HeadBreak.{HeadBreak}
use Rattle.dia_breaking_avps.specs.declared.breaking.HeadBreak.TheVariants.{Unknown as UnknownAvp, MBit}
use Rattle.dia_breaking_avps.specs.declared.breaking.DataBreak.{DataBreak}
use Rattle.dia_breaking_avps.specs.declared.breaking.DataBreak.TheVariants.{Fits, Groups, Data, LeastLevel, EightBytes, Undecided}
use Rattle.dia_breaking_avps.specs.Breaks.{RefusesFirst, IsDataBreak, IsHeadBreak, IsSilentData, TakesLevels}
use Rattle.dia_breaking_avps.specs.Sent.{group_of, IsSentData, IsAcceptedData, IsShortestRefused}
use Rattle.dia_breaking_shortest.specs.Floors.{shortest_head, padded}
use Rattle.dia_breaking_levels.specs.LevelTests.{capped}
use Rattle.dia_breaking_ways.specs.declared.graph.Step.{Step}
use Rattle.dia_breaking_ways.specs.declared.graph.Reach.{Reach}
use Rattle.dia_breaking.specs.declared.line.Cause.{Cause}
use Rattle.dia_breaking.specs.declared.line.Cause.TheVariants as causes
use Rattle.dia_breaking.specs.declared.line.Site.{Site}
use Rattle.dia_breaking.specs.declared.own_breaks.OwnBreaks.{OwnBreaks}
use Rattle.dia_breaking.specs.declared.own_lines.Kind.{Kind}
use Rattle.dia_breaking.specs.declared.own_lines.Kind.TheVariants as kinds
use Rattle.dia_breaking.specs.declared.sites.Numbers.{Numbers}
use Rattle.dia_breaking.specs.Listing.{Recorded, Basis, Listed, IsListingOf, start_of, sites_of, lines_of, meanings_of, own_cause, own_line, own_lines, data_length, head_cause, reach_at, reached_line, with_room, numbers}
use Rattle.dia_breaking.specs.Listing.{header_lines, command_levels, group_levels}
use Rattle.dia_breaking.specs.Meanings.{IsReadAsOther}
use Rattle.dia_breaking.specs.Orders.{IsInOrderOf, joined, of_each}
use Rattle.dia_breaking.specs.OwnBreaks.{IsOwnBreaks}
use Rattle.dia_breaking.specs.Sites.{command_sites, group_site, group_sites, site_number}
use Rattle.dia_breaking.specs.Sides.{sides}
use Rattle.dia_breaking.proofs.OneSolution.{first_key, one_truth, rest_keys}
use Rattle.dia_breaking.proofs.OwnBreaks.{no_head, silent_by_taken, taken_by_silent}

-- ---- what AVPs of one key break

module _ (da db : Dictionary) (who : Sends) (u : Unknown) (key : Key) where
  not_first : RefusesFirst da db who u key true → RefusesFirst da db who u key false → ⊥
  not_first set clear = let r = clear.0 0 (λ m. m refl) in r.1 (set.1 refl 0 (λ m. m refl) r.0)

  one_flag : (m n : Bool) → RefusesFirst da db who u key m → RefusesFirst da db who u key n → m ≡ n
  one_flag true true first second = refl
  one_flag false false first second = refl
  one_flag true false first second = absurd (not_first first second)
  one_flag false true first second = absurd (not_first second first)

  one_head : (x y : Option HeadBreak) → IsHeadBreak da db who u key x → IsHeadBreak da db who u key y → x ≡ y
  one_head None y first second = sym (no_head da db who u key y second first)
  one_head (Some x) None first second = no_head da db who u key (Some x) first second
  one_head (Some (UnknownAvp m)) (Some (UnknownAvp n)) first second = ap (λ (b : Bool). Some (UnknownAvp b)) (one_flag m n first.1 second.1)
  one_head (Some (MBit m)) (Some (MBit n)) first second = ap (λ (b : Bool). Some (MBit b)) (one_flag m n first.1 second.1)
  one_head (Some (UnknownAvp m)) (Some (MBit n)) first second = absurd (both_ways (is_some (known db key)) (ap (λ (o : Option DictEntry). is_some o) first.0) second.0)
  one_head (Some (MBit m)) (Some (UnknownAvp n)) first second = absurd (both_ways (is_some (known db key)) (ap (λ (o : Option DictEntry). is_some o) second.0) first.0)

  abbrev IsTaken : DataBreak → Type 0
  IsTaken found = IsSome (group_of da key) → found ≡ Fits → TakesLevels da db who key

  silent_too : (x y : DataBreak) → IsDataBreak da db who u key x → IsTaken x → IsDataBreak da db who u key y → IsSilentData x → IsSilentData y
  silent_too x y first taken second silent = silent_by_taken da db who u key y second (taken_by_silent da db who u key x first taken silent)

  no_group : group_of da key ≡ None → IsSome (group_of da key) → ⊥
  no_group none some = both_ways (is_some (group_of da key)) (ap (λ (o : Option PlainDefinition). is_some o) none) some

  abbrev IsRefused : List ℕ → Type 0
  IsRefused bytes = IsShortestRefused (IsSentData da who key) (IsAcceptedData db u key) bytes

  one_shortest : (x y : List ℕ) → IsRefused x → IsRefused y → length x ≡ length y
  one_shortest x y first second =
      let le = first.least y second.sent second.refused in
      let ge = second.least x first.sent first.refused in
      omega (arith, le, ge)

  no_length : (own : OwnBreaks) (size : ℕ) (found : DataBreak) → IsSilentData found → data_length own size found ≡ None
  no_length own size Fits silent = refl
  no_length own size (Groups a b) silent = refl
  no_length own size (Data found) silent = absurd silent
  no_length own size LeastLevel silent = absurd silent
  no_length own size EightBytes silent = absurd silent
  no_length own size Undecided silent = absurd silent

  module _ (least size : ℕ) (b d : AvpBreaks) (reads : Bool) where
    abbrev one : OwnBreaks
    one = record { key = key; least = least; breaks = b; is_other = reads }

    abbrev other : OwnBreaks
    other = record { key = key; least = least; breaks = d; is_other = reads }

    one_length : (x y : DataBreak) → IsDataBreak da db who u key x → IsTaken x → IsDataBreak da db who u key y → IsTaken y → data_length one size x ≡ data_length other size y
    one_length Fits y first taken second too = sym (no_length other size y (silent_too Fits y first taken second tt))
    one_length (Groups m n) y first taken second too = sym (no_length other size y (silent_too (Groups m n) y first taken second tt))
    one_length (Data f) Fits first taken second too = absurd (silent_too Fits (Data f) second too first tt)
    one_length (Data f) (Groups m n) first taken second too = absurd (silent_too (Groups m n) (Data f) second too first tt)
    one_length (Data f) (Data g) first taken second too =
        ap (λ (n : ℕ). Some (capped (size - least + padded (shortest_head key + n)))) (one_shortest (witness_bytes f) (witness_bytes g) first.1 second.1)
    one_length (Data f) LeastLevel first taken second too = absurd (no_group first.0 second.0)
    one_length (Data f) EightBytes first taken second too = absurd (no_group first.0 second.0)
    one_length (Data f) Undecided first taken second too = absurd (no_group first.0 second.0)
    one_length LeastLevel Fits first taken second too = absurd (silent_too Fits LeastLevel second too first tt)
    one_length LeastLevel (Groups m n) first taken second too = absurd (silent_too (Groups m n) LeastLevel second too first tt)
    one_length LeastLevel (Data g) first taken second too = absurd (no_group second.0 first.0)
    one_length LeastLevel LeastLevel first taken second too = refl
    one_length LeastLevel EightBytes first taken second too = refl
    one_length LeastLevel Undecided first taken second too = refl
    one_length EightBytes Fits first taken second too = absurd (silent_too Fits EightBytes second too first tt)
    one_length EightBytes (Groups m n) first taken second too = absurd (silent_too (Groups m n) EightBytes second too first tt)
    one_length EightBytes (Data g) first taken second too = absurd (no_group second.0 first.0)
    one_length EightBytes LeastLevel first taken second too = refl
    one_length EightBytes EightBytes first taken second too = refl
    one_length EightBytes Undecided first taken second too = refl
    one_length Undecided Fits first taken second too = absurd (silent_too Fits Undecided second too first tt)
    one_length Undecided (Groups m n) first taken second too = absurd (silent_too (Groups m n) Undecided second too first tt)
    one_length Undecided (Data g) first taken second too = absurd (no_group second.0 first.0)
    one_length Undecided LeastLevel first taken second too = refl
    one_length Undecided EightBytes first taken second too = refl
    one_length Undecided Undecided first taken second too = refl

    one_cause : (kind : Kind) → b.head ≡ d.head → data_length one size b.data ≡ data_length other size d.data → own_cause kind one size ≡ own_cause kind other size
    one_cause kinds.Data heads lengths = ap (λ (o : Option ℕ). option_map (λ (n : ℕ). (causes.Format key None, n)) o) lengths
    one_cause kinds.Meaning heads lengths = refl
    one_cause kinds.Unknown heads lengths = ap (λ (o : Option HeadBreak). option_map (λ (cause : Cause). (cause, size)) (option_and_then (head_cause kinds.Unknown key) o)) heads
    one_cause kinds.MBit heads lengths = ap (λ (o : Option HeadBreak). option_map (λ (cause : Cause). (cause, size)) (option_and_then (head_cause kinds.MBit key) o)) heads

-- ---- lists for which the same is reported

abbrev pub Alike : OwnBreaks → OwnBreaks → Type 0
Alike one other = (one.key ≡ other.key) × ((kind : Kind) (size : ℕ) → own_cause kind one size ≡ own_cause kind other size)

abbrev pub AreAlike : List OwnBreaks → List OwnBreaks → Type 0
AreAlike [] [] = ⊤
AreAlike [] (y ∷ ys) = ⊥
AreAlike (x ∷ xs) [] = ⊥
AreAlike (x ∷ xs) (y ∷ ys) = Alike x y × AreAlike xs ys

abbrev pub keys_of : List OwnBreaks → List Key
keys_of all = map (λ own. own.key) all

module _ (da db : Dictionary) (who : Sends) (u : Unknown) (floor : Key → ℕ) where
  alike : (one other : OwnBreaks) → IsOwnBreaks (sides da db who u) floor one → IsOwnBreaks (sides da db who u) floor other → one.key ≡ other.key → Alike one other
  alike one other is are same =
      let least : other.least ≡ one.least = are.least ∙ ap floor (sym same) ∙ sym is.least in
      let reads : other.is_other ≡ one.is_other = one_truth other.is_other one.is_other are.other (subst (λ (key : Key). IsTrue one.is_other ↔ IsReadAsOther (sides da db who u) key) same is.other) in
      let at : OwnBreaks = record { key = one.key; least = one.least; breaks = other.breaks; is_other = one.is_other } in
      let path : other ≡ at = λ i. record { key = sym same i; least = least i; breaks = other.breaks; is_other = reads i } in
      let moved : IsOwnBreaks (sides da db who u) floor at = subst (λ (own : OwnBreaks). IsOwnBreaks (sides da db who u) floor own) path are in
      let heads = one_head da db who u one.key one.breaks.head other.breaks.head is.head moved.head in (
        same,
        λ kind size.
            one_cause da db who u one.key one.least size one.breaks other.breaks one.is_other kind heads
            (one_length da db who u one.key one.least size one.breaks other.breaks one.is_other one.breaks.data other.breaks.data is.content is.taken moved.content moved.taken)
            ∙ ap (λ (own : OwnBreaks). own_cause kind own size) (sym path),
      )

  pub all_alike : (xs ys : List OwnBreaks) → keys_of xs ≡ keys_of ys → All (IsOwnBreaks (sides da db who u) floor) xs → All (IsOwnBreaks (sides da db who u) floor) ys
      → AreAlike xs ys
  all_alike [] [] same is are = tt
  all_alike [] (y ∷ ys) same is are = absurd (let bad : [] ≡ y.key ∷ map (λ (own : OwnBreaks). own.key) ys = same in cc)
  all_alike (x ∷ xs) [] same is are = absurd (let bad : x.key ∷ map (λ (own : OwnBreaks). own.key) xs ≡ [] = same in cc)
  all_alike (x ∷ xs) (y ∷ ys) same is are =
      let P = IsOwnBreaks (sides da db who u) floor in (
        alike x y (All-head P x xs is) (All-head P y ys are) (ap (λ (ks : List Key). first_key ks x.key) same),
        all_alike xs ys (ap rest_keys same) (All-tail P x xs is) (All-tail P y ys are),
      )

same_length : (xs ys : List OwnBreaks) → AreAlike xs ys → length xs ≡ length ys
same_length [] [] are = refl
same_length [] (y ∷ ys) are = absurd are
same_length (x ∷ xs) [] are = absurd are
same_length (x ∷ xs) (y ∷ ys) are = ap (λ (n : ℕ). suc n) (same_length xs ys are.1)

module _ {Z : Type 0} (f : Option OwnBreaks → Z) (same : (x y : OwnBreaks) → Alike x y → f (Some x) ≡ f (Some y)) where
  at_alike : (xs ys : List OwnBreaks) → AreAlike xs ys → (i : ℕ) → f (slice_get xs i) ≡ f (slice_get ys i)
  at_alike [] [] are i = refl
  at_alike [] (y ∷ ys) are i = absurd are
  at_alike (x ∷ xs) [] are i = absurd are
  at_alike (x ∷ xs) (y ∷ ys) are zero = same x y are.0
  at_alike (x ∷ xs) (y ∷ ys) are (suc i) = at_alike xs ys are.1 i

module _ (own others : List OwnBreaks) (are : AreAlike own others) (first count : ℕ) where
  same_line : (kind : Kind) (reached : List (Option Reach)) (place : ℕ) (x y : OwnBreaks) → Alike x y → reached_line kind first count reached place x ≡ reached_line kind first count reached place y
  same_line kind reached place x y a =
      let line : own_line kind first count x ≡ own_line kind first count y =
      λ j reach. option_and_then (λ (found : Cause × ℕ). with_room (site_number first count reach.level) found.1 found.0) (a.1 kind reach.length j) in
      ap (λ (line : Reach → Option Recorded). option_to_list (option_and_then line (reach_at reached place))) line

  same_lines : (kind : Kind) (reached : List (Option Reach)) → own_lines kind first count own reached ≡ own_lines kind first count others reached
  same_lines kind reached =
      let line = reached_line kind first count reached in
      let part : (i : ℕ) → option_map_or (line i) (slice_get own i) [] ≡ option_map_or (line i) (slice_get others i) [] =
      λ i. at_alike (λ (o : Option OwnBreaks). option_map_or (reached_line kind first count reached i) o []) (same_line kind reached i) own others are i in
      let size = same_length own others are in
      λ j. joined (λ i. part i j) (size j)

  abbrev site_of : Step → Option OwnBreaks → Option Site
  site_of step o = option_map (λ one. group_site first count step one.key) o

  same_sites : (steps : List Step) → group_sites own first count steps ≡ group_sites others first count steps
  same_sites steps =
      let part : (step : Step) → site_of step (slice_get own step.place) ≡ site_of step (slice_get others step.place) =
      λ step. at_alike (site_of step) (λ x y a. ap (λ (key : Key). Some (group_site first count step key)) a.0) own others are step.place in
      λ j. filter_map (λ step. part step j) steps

-- ---- listings by such lists

-- what is listed is the same with such a list
abbrev pub IsListedAlike : Listed → Type 0
IsListedAlike listed = (db : Dictionary) (basis : Basis) (others : List OwnBreaks) → AreAlike basis.own others → (n : Numbers) (steps : List Step) (reached : List (Option Reach))
    → listed db basis n steps reached ≡ listed db (record basis { own = others }) n steps reached

pub lines_alike : IsListedAlike lines_of
lines_alike db basis others are n steps reached =
    let unknown = same_lines basis.own others are n.first n.count kinds.Unknown reached in
    let m_bits = same_lines basis.own others are n.first n.count kinds.MBit reached in
    let formats = same_lines basis.own others are n.first n.count kinds.Data reached in
    λ j. of_each (header_lines db basis.head basis.base) basis.readings ++ of_each command_levels basis.levels ++ of_each (group_levels n.count basis.groups) steps
    ++ unknown j ++ m_bits j ++ formats j

pub meanings_alike : IsListedAlike meanings_of
meanings_alike db basis others are n steps reached = same_lines basis.own others are n.first n.count kinds.Meaning reached

pub listing_by : (listed : Listed) → IsListedAlike listed → (db : Dictionary) (basis : Basis) (others : List OwnBreaks) (sites : List Site) (recorded : List Recorded) → AreAlike basis.own others
    → IsListingOf listed db basis sites recorded → IsListingOf listed db (record basis { own = others }) sites recorded
listing_by listed listed_alike db basis others sites recorded are is =
    let first = unwrap_or (start_of db basis) 0 in
    let count = length basis.readings in
    let next : Basis = record basis { own = others } in
    let groups = same_sites basis.own others are first count is.steps in
    let sites_same : sites_of db basis first count is.steps ≡ sites_of db next first count is.steps = ap (λ (more : List Site). command_sites db basis.head basis.readings ++ more) groups in
    record {
      steps = is.steps;
      reached = is.reached;
      is_walk = is.is_walk;
      sites_are = is.sites_are ∙ sites_same;
      lines_are = subst (λ (all : List Recorded). IsInOrderOf (λ (line : Recorded). line.site) all recorded) (listed_alike db basis others are (numbers first count) is.steps is.reached) is.lines_are;
    }
