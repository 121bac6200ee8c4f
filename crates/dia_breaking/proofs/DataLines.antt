-- Which line reports data that break: the causes exclude each other.
use Rattle.std.proofs.Common.{◌≡◌, ℕ, Bool, true, false, List, [], ◌∷◌, Option, Some, None, refl, sym, ap, subst, ◌∙◌, arith, inl, inr}
use Rattle.std.specs.Prelude.{◌⊎◌, is_some, IsSome}
use Rattle.std.proofs.lemmas.Bool.{both_ways}
use Rattle.std.proofs.lemmas.Option.{none-some, same_Some}
use Rattle.std.proofs.lemmas.Str.{IsUtf8-nil}
use Rattle.dia_wire.specs.declared.Key.{Key}
use Rattle.dia_wire.specs.Wire.{PlainAvp, SpellsAll, avp_length}
use Rattle.dia_data.specs.Plain.{PlainFormat, EightBytes, Address, Utf8String}
use Rattle.dia_book.specs.declared.DRule.{DRule}
use Rattle.dia_book.specs.Dictionary.{Dictionary, DictEntry, PlainDefinition}
use Rattle.dia_terms.specs.declared.Sends.{Sends}
use Rattle.dia_breaking_data.specs.declared.short_data.Witness.{Witness}
use Rattle.dia_breaking_avps.specs.Breaks.{IsDataBreak}
use Rattle.dia_breaking_avps.specs.Levels.{HasEightBytes, IsOrdinary, IsUndecided, RefusesLeastLevel, empty, short}
use Rattle.dia_breaking_avps.specs.Sent.{IsAcceptedData, group_of, group_rules}
use Rattle.dia_breaking_avps.specs.declared.breaking.DataBreak.{DataBreak}
use Rattle.dia_breaking_avps.specs.declared.breaking.DataBreak.TheVariants.{Data, LeastLevel, EightBytes, Undecided}
use Rattle.dia_breaking_shortest.specs.declared.lookup.Least.{Least}
use Rattle.dia_breaking_shortest.specs.Bytes.{least_avp}
use Rattle.dia_breaking_shortest.proofs.OneLeast.{one_least_avp}
use Rattle.dia_breaking_shortest.proofs.OneSolution.{lengths_are_one}
use Rattle.dia_breaking.specs.declared.line.Cause.{Cause}
use Rattle.dia_breaking.specs.declared.line.Cause.TheVariants as causes
use Rattle.dia_breaking.specs.DataLines.{DataLinesAreApart, IsLineOfData, NamesData}
use Rattle.dia_breaking.specs.Lengths.{AreEntryLengths, IsLeastFor, listed_length}
use Rattle.dia_breaking.specs.OwnBreaks.{LeavesOpen, OfLeast, ReadsEight, ReadsOpen, ReadsRefused, RefusesShortest, leaves_eight}
use Rattle.dia_breaking.specs.Sides.{Sides}
use Rattle.dia_breaking.specs.Tried.{IsLeftOpenBy, IsRefusedBy}
use Rattle.dia_breaking.proofs.TheOneList.{one_list_of_lengths}

-- ---- a level of 8 bytes

abbrev least : PlainAvp
least = record { code = 0; flags = 0; vendor = None; bytes = [] }

abbrev least_bytes : List ℕ
least_bytes = 0 ∷ 0 ∷ 0 ∷ 0 ∷ 0 ∷ 0 ∷ 0 ∷ 8 ∷ []

spelled : SpellsAll (least ∷ []) least_bytes
spelled = (
  least_bytes,
  [],
  record {
    code = 0 ∷ 0 ∷ 0 ∷ 0 ∷ [];
    len = 0 ∷ 0 ∷ 8 ∷ [];
    vendor = [];
    padding = [];
    parts = refl;
    code_field = record { width = refl; value = refl };
    length_field = record { width = refl; value = refl };
    vendor_field = refl;
    agrees = (λ set. absurd (set refl), λ some. absurd (both_ways false refl some));
    short_padding = omega arith;
    aligned = refl;
  },
  refl,
  refl,
)

ordinary : IsOrdinary (least ∷ [])
ordinary = short (least ∷ []) least (0, omega arith, refl) (let size : avp_length least ≡ 8 = refl in omega (arith, size))

-- each format of eight bytes accepts that level
accepts_eight : (rules : List DRule) (f : PlainFormat) → HasEightBytes f → RefusesLeastLevel rules f → ⊥
accepts_eight rules (EightBytes name) may refuses = refuses (least ∷ []) least_bytes spelled ordinary refl
accepts_eight rules f may refuses = absurd may

-- each undecided format accepts some ordinary level, or no level is empty
accepts_one : (d : Dictionary) (who : Sends) (rules : List DRule) (f : PlainFormat) → IsUndecided d who rules f → RefusesLeastLevel rules f → ⊥
accepts_one d who rules Address may refuses = may.0 refuses
accepts_one d who rules Utf8String may refuses = refuses [] [] refl empty IsUtf8-nil
accepts_one d who rules f may refuses = absurd may

-- no format of eight bytes is undecided
eight_or_open : (d : Dictionary) (who : Sends) (rules : List DRule) (f : PlainFormat) → HasEightBytes f → IsUndecided d who rules f → ⊥
eight_or_open d who rules Address may left = absurd may
eight_or_open d who rules Utf8String may left = absurd may
eight_or_open d who rules f may left = absurd left

-- ---- lines

abbrev is_undecided : Cause → Bool
is_undecided (causes.LevelAsLeaf key) = true
is_undecided cause = false

abbrev names : Cause → Bool
names (causes.Format key (Some found)) = true
names cause = false

module _ (s : Sides) (key : Key) where
  abbrev Breaks : DataBreak → Type 0
  Breaks found = IsDataBreak s.sender s.receiver s.sends s.unknown key found

  abbrev AsLeaf : Type 0
  AsLeaf = Breaks LeastLevel ⊎ (Breaks EightBytes ⊎ Breaks Undecided)

  as_leaf_some : AsLeaf → IsSome (group_of s.sender key)
  as_leaf_some (inl h) = h.0
  as_leaf_some (inr (inl h)) = h.0
  as_leaf_some (inr (inr h)) = h.0

  refused_here : (e f : DictEntry) → Some e ≡ Some f → RefusesLeastLevel (group_rules s.sender key) e.format → RefusesLeastLevel (group_rules s.sender key) f.format
  refused_here e f same refuses = subst (λ (x : DictEntry). RefusesLeastLevel (group_rules s.sender key) x.format) (same_Some e f same) refuses

  not_eight : Breaks LeastLevel → Breaks EightBytes → ⊥
  not_eight (group, (e, is, leaf, refuses)) (again, (f, at, other, may)) =
      accepts_eight (group_rules s.sender key) f.format may (refused_here e f (sym is ∙ at) refuses)

  not_both : Breaks LeastLevel → Breaks Undecided → ⊥
  not_both (group, (e, is, leaf, refuses)) (again, (f, at, other, may)) =
      accepts_one s.sender s.sends (group_rules s.sender key) f.format may (refused_here e f (sym is ∙ at) refuses)

  not_open : Breaks EightBytes → Breaks Undecided → ⊥
  not_open (group, (e, is, leaf, eight)) (again, (f, at, other, may)) =
      eight_or_open s.sender s.sends (group_rules s.sender key) f.format (subst (λ (x : DictEntry). HasEightBytes x.format) (same_Some e f (sym is ∙ at)) eight) may

  no_level : group_of s.sender key ≡ None → IsSome (group_of s.sender key) → ⊥
  no_level none some = both_ways (is_some (group_of s.sender key)) (ap (λ (o : Option PlainDefinition). is_some o) none) some

  -- ---- there is one shortest AVP

  same_lengths : (least other : Least) (lengths others : List ℕ) → IsLeastFor s.sender s.sends least lengths → IsLeastFor s.sender s.sends other others → lengths ≡ others
  same_lengths least other lengths others is are =
      let same = lengths_are_one s.sender s.sends least.lengths.items other.lengths.items is.is_least.lengths are.is_least.lengths in
      one_list_of_lengths s.sender other.lengths.items lengths others (subst (λ (xs : List ℕ). AreEntryLengths s.sender xs lengths) same is.are_lengths) are.are_lengths

  of_both : (P Q : List ℕ → ℕ → Type 0) → OfLeast s key P → OfLeast s key Q → (bytes : List ℕ) × (n : ℕ) × P bytes n × Q bytes n
  of_both P Q (least, lengths, is, p) (other, others, are, q) =
      let bytes = one_least_avp s.sender s.sends least other is.is_least are.is_least key in
      let size = ap (λ (xs : List ℕ). listed_length s.sender s.sends xs key) (same_lengths least other lengths others is are) in
      let here = subst (λ (xs : List ℕ). P xs (listed_length s.sender s.sends others key)) bytes (subst (P (least_avp s.sender least key)) size p) in
      (least_avp s.sender other key, listed_length s.sender s.sends others key, here, q)

  eight_apart : ReadsEight s key false → ReadsEight s key true → ⊥
  eight_apart (h, lacks) (again, has) = let r = of_both (λ bytes n. leaves_eight key n ≡ false) (λ bytes n. leaves_eight key n ≡ true) lacks has in both_ways (leaves_eight key r.1) r.2 r.3

  refused_or_open : (bytes : List ℕ) (n : ℕ) → IsRefusedBy (IsAcceptedData s.receiver s.unknown key) key bytes n → IsLeftOpenBy (IsAcceptedData s.receiver s.unknown key) key bytes n → ⊥
  refused_or_open bytes n (fits, refuses) (inl long) = omega (arith, fits, long)
  refused_or_open bytes n (fits, refuses) (inr accepted) = refuses accepted

  tries_apart : ReadsRefused s key → ReadsOpen s key → ⊥
  tries_apart (h, refused) (again, left) =
      let Accepts = IsAcceptedData s.receiver s.unknown key in
      let r = of_both (IsRefusedBy Accepts key) (IsLeftOpenBy Accepts key) refused left in
      refused_or_open r.0 r.1 r.2 r.3

  -- ---- the causes exclude each other

  refused_or_left : RefusesShortest s key → LeavesOpen s key → ⊥
  refused_or_left (inl h) (inl eight) = not_eight h eight.0
  refused_or_left (inl h) (inr left) = not_both h left.0
  refused_or_left (inr (inl eight)) (inl other) = eight_apart eight other
  refused_or_left (inr (inl eight)) (inr left) = not_open eight.0 left.0
  refused_or_left (inr (inr refused)) (inl eight) = not_open eight.0 refused.0
  refused_or_left (inr (inr refused)) (inr left) = tries_apart refused left

  refused_leaf : RefusesShortest s key → AsLeaf
  refused_leaf (inl h) = inl h
  refused_leaf (inr (inl eight)) = inr (inl eight.0)
  refused_leaf (inr (inr refused)) = inr (inr refused.0)

  open_leaf : LeavesOpen s key → AsLeaf
  open_leaf (inl eight) = inr (inl eight.0)
  open_leaf (inr left) = inr (inr left.0)

  unnamed : (cause : Cause) → names cause ≡ false → NamesData key cause → ⊥
  unnamed cause none (found, e) = let bad : true ≡ false = sym (ap names e) ∙ none in both_ways true bad refl

  of_leaf : (found : Witness) → Breaks (Data found) → IsLineOfData s key (causes.Format key (Some found))
  of_leaf found (none, shortest) = record {
    leaf = (λ named. none, λ again. (found, refl));
    level = λ some. absurd (no_level none some);
    refused = (λ e. absurd (let bad : true ≡ false = ap names e in both_ways true bad refl), λ h. absurd (no_level none (as_leaf_some (refused_leaf h))));
    undecided = (λ e. absurd (let bad : false ≡ true = ap is_undecided e in both_ways false refl bad), λ h. absurd (no_level none (as_leaf_some (open_leaf h))));
  }

  -- of levels that B reads as leaves
  of_refused : RefusesShortest s key → IsLineOfData s key (causes.Format key None)
  of_refused refuses = record {
    leaf = (λ named. absurd (unnamed (causes.Format key None) refl named), λ none. absurd (no_level none (as_leaf_some (refused_leaf refuses))));
    level = λ group. refused_leaf refuses;
    refused = (λ e. refuses, λ h. refl);
    undecided = (λ e. absurd (let bad : false ≡ true = ap is_undecided e in both_ways false refl bad), λ h. absurd (refused_or_left refuses h));
  }

  of_open : LeavesOpen s key → IsLineOfData s key (causes.LevelAsLeaf key)
  of_open left = record {
    leaf = (λ named. absurd (unnamed (causes.LevelAsLeaf key) refl named), λ none. absurd (no_level none (as_leaf_some (open_leaf left))));
    level = λ group. open_leaf left;
    refused = (λ e. absurd (let bad : true ≡ false = ap is_undecided e in both_ways true bad refl), λ h. absurd (refused_or_left h left));
    undecided = (λ e. left, λ h. refl);
  }

of_key : (s : Sides) (own key : Key) (cause : Cause) → Some own ≡ Some key → IsLineOfData s own cause → IsLineOfData s key cause
of_key s own key cause e is = subst (λ (k : Key). IsLineOfData s k cause) (same_Some own key e) is

pub apart : DataLinesAreApart
apart s key (causes.Format own (Some found)) is records = of_key s own key _ is (of_leaf s own found records)
apart s key (causes.Format own None) is records = of_key s own key _ is (of_refused s own records)
apart s key (causes.LevelAsLeaf own) is records = of_key s own key _ is (of_open s own records)
apart s key causes.Command is records = absurd (none-some key is)
apart s key causes.Application is records = absurd (none-some key is)
apart s key (causes.Proxiable set) is records = absurd (none-some key is)
apart s key (causes.Level line) is records = absurd (none-some key is)
apart s key (causes.Unknown own m) is records = absurd (none-some key is)
apart s key (causes.MBit own m) is records = absurd (none-some key is)
apart s key (causes.Meaning own) is records = absurd (none-some key is)
