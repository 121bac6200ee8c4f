-- What corresponds does so both ways.
use Rattle.std.proofs.Common.{◌≡◌, ℕ, ◌<◌, Bool, true, false, cond, List, length, map, get_or, Option, Some, None, refl, sym, ap, subst, ◌∙◌}
use Rattle.std.specs.Prelude.{IfSome, is_some, option_and_then, slice_get, position}
use Rattle.std.specs.Option.{option_or}
use Rattle.std.proofs.lemmas.List.{length-map, same_lists}
use Rattle.std.proofs.lemmas.Option.{get_or_from_slice_get, none-some, same_Some, slice_get_within}
use Rattle.std.proofs.lemmas.Slice.Eq.{bytes_eq-Decides}
use Rattle.dia_book.specs.Dictionary.{Dictionary, DictEntry, PlainDefinition, IsCommandHead, IsDictionary, IsSameSelector, entry_of}
use Rattle.dia_book.proofs.Members.{at_map, into_map}
use Rattle.dia_book.proofs.SameKeys.{same_key-equal, same_key-true}
use Rattle.dia_valid.proofs.Entries.{all_at, at_position}
use Rattle.dia_valid.proofs.Members.{at_some, there_is}
use Rattle.dia_differences.specs.Headers.{messages}
use Rattle.dia_differences.specs.Partners.{AreBothWays, Matches, avp_partner, command_partner, has_command_name, has_key, has_messages, has_name, matches_of, partner, same_messages, unless_known}
use Rattle.dia_differences.proofs.CommandMessages.{messages_by, messages_own, messages_same, selector_by}
use Rattle.dia_differences.proofs.Paired.{position_one}

-- keys and names are distinct
pub record AreDistinct {X : Type 0} (k n : X → X → Bool) (xs : List X) : Type 0 where
  pub key_sym : (x y : X) → k x y ≡ true → k y x ≡ true
  pub name_sym : (x y : X) → n x y ≡ true → n y x ≡ true
  pub one_key : (i j : ℕ) (x y z : X) → slice_get xs i ≡ Some x → slice_get xs j ≡ Some z → k y x ≡ true → k y z ≡ true → i ≡ j
  pub one_name : (i j : ℕ) (x y z : X) → slice_get xs i ≡ Some x → slice_get xs j ≡ Some z → n y x ≡ true → n y z ≡ true → i ≡ j

none_is : {X : Type 0} (o : Option X) → is_some o ≡ false → o ≡ None
none_is None e = refl
none_is (Some x) e = absurd (let n : true ≡ false = e in cc)

some_isnt : {X : Type 0} (p j : ℕ) (o : Option X) → is_some o ≡ true → cond (is_some o) None (Some p) ≡ Some j → ⊥
some_isnt p j o e h = none-some j (sym (ap (λ (b : Bool). cond b None (Some p)) e) ∙ h)

-- ---- the partner's partner

module _ {X : Type 0} (k n : X → X → Bool) (xs ys : List X) (distinct : AreDistinct k n xs) where
  -- the place of the partner, and that its partner is at i
  abbrev IsMutual : ℕ → ℕ → Type 0
  IsMutual i j = (y : X) × (slice_get ys j ≡ Some y) × (partner k n ys xs y ≡ Some i)

  back_by_key : (i j : ℕ) (x y : X) → slice_get xs i ≡ Some x → slice_get ys j ≡ Some y → k x y ≡ true → IsMutual i j
  back_by_key i j x y here at test =
      let back : k y x ≡ true = distinct.key_sym x y test in (
        y,
        at,
        ap (λ (o : Option ℕ). option_or o (option_and_then (unless_known k ys xs) (position (n y) xs)))
            (position_one (k y) xs i x here back (λ q z there t. distinct.one_key q i z y x there here t back)),
      )

  back_by_name : (i j : ℕ) (x y : X) → slice_get xs i ≡ Some x → slice_get ys j ≡ Some y → n x y ≡ true → position (k x) ys ≡ None → position (k y) xs ≡ None → IsMutual i j
  back_by_name i j x y here at test none fresh =
      let back : n y x ≡ true = distinct.name_sym x y test in (
        y,
        at,
        ap (λ (o : Option ℕ). option_or o (option_and_then (unless_known k ys xs) (position (n y) xs))) fresh
            ∙ ap (λ (o : Option ℕ). option_and_then (unless_known k ys xs) o) (position_one (n y) xs i x here back (λ q z there t. distinct.one_name q i z y x there here t back))
            ∙ ap (λ (o : Option X). option_and_then (λ (z : X). cond (is_some (position (k z) ys)) None (Some i)) o) here
            ∙ ap (λ (o : Option ℕ). cond (is_some o) None (Some i)) none,
      )

  by_known : (i j p : ℕ) (x y : X) → slice_get xs i ≡ Some x → slice_get ys p ≡ Some y → n x y ≡ true → position (k x) ys ≡ None → (b : Bool) → is_some (position (k y) xs) ≡ b
      → cond (is_some (position (k y) xs)) None (Some p) ≡ Some j → IsMutual i j
  by_known i j p x y here at test none true e h = absurd (some_isnt p j (position (k y) xs) e h)
  by_known i j p x y here at test none false e h =
      let place : p ≡ j = same_Some p j (sym (ap (λ (b : Bool). cond b None (Some p)) e) ∙ h) in
      back_by_name i j x y here (ap (slice_get ys) (sym place) ∙ at) test none (none_is (position (k y) xs) e)

  by_name : (i j : ℕ) (x : X) → slice_get xs i ≡ Some x → position (k x) ys ≡ None → (o : Option ℕ) → position (n x) ys ≡ o → option_and_then (unless_known k xs ys) o ≡ Some j → IsMutual i j
  by_name i j x here none None is e = absurd (none-some j e)
  by_name i j x here none (Some p) is e =
      let (y, at, test) = at_position (n x) ys p is in
      by_known i j p x y here at test none (is_some (position (k y) xs)) refl (sym (ap (λ (o : Option X). option_and_then (λ (z : X). cond (is_some (position (k z) xs)) None (Some p)) o) at) ∙ e)

  by_key : (i j : ℕ) (x : X) → slice_get xs i ≡ Some x → (o : Option ℕ) → position (k x) ys ≡ o → option_or o (option_and_then (unless_known k xs ys) (position (n x) ys)) ≡ Some j → IsMutual i j
  by_key i j x here (Some p) is e =
      let (y, at, test) = at_position (k x) ys j (is ∙ e) in
      back_by_key i j x y here at test
  by_key i j x here None is e = by_name i j x here is (position (n x) ys) refl e

  pub paired_back : (i j : ℕ) (x : X) → slice_get xs i ≡ Some x → partner k n xs ys x ≡ Some j → IsMutual i j
  paired_back i j x here e = by_key i j x here (position (k x) ys) refl e

  pub paired_at : (i j : ℕ) → slice_get (map (partner k n xs ys) xs) i ≡ Some (Some j) → slice_get (map (partner k n ys xs) ys) j ≡ Some (Some i)
  paired_at i j e =
      let (x, here, is) = at_map (partner k n xs ys) xs i (Some j) e in
      let (y, at, back) = paired_back i j x here is in
      into_map (partner k n ys xs) ys j y at ∙ ap (λ (o : Option ℕ). Some o) back

-- ---- lists of partners

-- lists with the same at each place
pub same_places : {Y : Type 0} (xs ys : List Y) → length xs ≡ length ys → ((i : ℕ) (x y : Y) → slice_get xs i ≡ Some x → slice_get ys i ≡ Some y → x ≡ y) → xs ≡ ys
same_places {Y} xs ys many same = same_lists xs ys many at
  where
    at : (i : ℕ) (d : Y) → i < length xs → get_or xs i d ≡ get_or ys i d
    at i d less =
        let (x, x_at) = there_is xs i less in
        let (y, y_at) = there_is ys i (subst (λ (n : ℕ). i < n) many less) in
        get_or_from_slice_get xs i x d x_at ∙ same i x y x_at y_at ∙ sym (get_or_from_slice_get ys i y d y_at)

-- what each place has by the member there
pub mapped : {X Y : Type 0} (f : X → Y) (xs : List X) (ys : List Y) (n : ℕ) → n ≡ length xs → (length ys ≡ n) × ((i : ℕ) (y : Y) → slice_get ys i ≡ Some y → IfSome (slice_get xs i) (λ x. y ≡ f x)) → ys ≡ map f xs
mapped {X} {Y} f xs ys n count h =
    same_places ys (map f xs) (h.0 ∙ count ∙ sym (length-map xs f)) (λ i y z at there.
    let (x, here, is) = at_map f xs i z there in
    at_some (λ (w : X). y ≡ f w) (slice_get xs i) x (h.1 i y at) here ∙ is)

module _ {X : Type 0} (k n : X → X → Bool) (xs ys : List X) (own : AreDistinct k n xs) (others : AreDistinct k n ys) where
  abbrev all_there : List (Option ℕ)
  all_there = map (partner k n xs ys) xs

  abbrev all_back : List (Option ℕ)
  all_back = map (partner k n ys xs) ys

  pub both_ways : AreBothWays all_there all_back (length ys)
  both_ways = record {
    many = length-map ys (partner k n ys xs);
    back_of = λ i j at. paired_at k n ys xs others j i at;
    there_of = λ i j at within. (i, paired_at k n xs ys own i j at);
  }

  pub back_is : (there back : List (Option ℕ)) → there ≡ all_there → AreBothWays there back (length ys) → back ≡ all_back
  back_is there back is h = same_places back all_back (h.many ∙ sym (length-map ys (partner k n ys xs))) one
    where
      one : (j : ℕ) (o p : Option ℕ) → slice_get back j ≡ Some o → slice_get all_back j ≡ Some p → o ≡ p
      one j (Some i) p at there_at =
          same_Some (Some i) p (sym (paired_at k n xs ys own i j (ap (λ (ps : List (Option ℕ)). slice_get ps i) (sym is) ∙ h.back_of i j at)) ∙ there_at)
      one j None None at there_at = refl
      one j None (Some i) at there_at =
          let named : slice_get there i ≡ Some (Some j) = ap (λ (ps : List (Option ℕ)). slice_get ps i) is ∙ paired_at k n ys xs others j i there_at in
          let (q, back_at) = h.there_of i j named (subst (λ (m : ℕ). j < m) h.many (slice_get_within back j None at)) in
          absurd (none-some q (same_Some None (Some q) (sym at ∙ back_at)))

-- ---- of a dictionary

pub distinct_avps : (d : Dictionary) → IsDictionary d → AreDistinct has_key has_name d.entries
distinct_avps d sound = record {
  key_sym = λ x y e. same_key-equal y.key x.key (sym (same_key-true x.key y.key e));
  name_sym = λ x y e. (bytes_eq-Decides y.name x.name).1 (sym ((bytes_eq-Decides x.name y.name).0 e));
  one_key = λ i j x y z here there e f. sound.distinct_keys i j x z here there (sym (same_key-true y.key x.key e) ∙ same_key-true y.key z.key f);
  one_name = λ i j x y z here there e f. sound.distinct_names i j x z here there (sym ((bytes_eq-Decides y.name x.name).0 e) ∙ (bytes_eq-Decides y.name z.name).0 f);
}

equal_messages : (x y : PlainDefinition) → messages x.head ≡ messages y.head → has_messages x y ≡ true
equal_messages x y e = ap (same_messages (messages x.head)) (sym e) ∙ messages_own (messages x.head)

pub distinct_messages : (d : Dictionary) → IsDictionary d → (i j : ℕ) (x y : PlainDefinition) → slice_get d.commands i ≡ Some x → slice_get d.commands j ≡ Some y → messages x.head ≡ messages y.head → i ≡ j
distinct_messages d sound i j x y here there same =
    sound.distinct_selectors i j x y here there (selector_by x.head y.head (head_at i x here) (head_at j y there) (equal_messages x y same))
  where
    head_at : (i : ℕ) (x : PlainDefinition) → slice_get d.commands i ≡ Some x → IsCommandHead x.head
    head_at i x at = all_at (λ (c : PlainDefinition). IsCommandHead c.head) d.commands i x sound.command_heads at

pub distinct_commands_of : (d : Dictionary) → IsDictionary d → AreDistinct has_messages has_command_name d.commands
distinct_commands_of d sound = record {
  key_sym = λ x y e. equal_messages y x (sym (messages_same (messages x.head) (messages y.head) e));
  name_sym = λ x y e. (bytes_eq-Decides y.name x.name).1 (sym ((bytes_eq-Decides x.name y.name).0 e));
  one_key = λ i j x y z here there e f.
      distinct_messages d sound i j x z here there (sym (messages_same (messages y.head) (messages x.head) e) ∙ messages_same (messages y.head) (messages z.head) f);
  one_name = λ i j x y z here there e f. sound.distinct_commands i j x z here there (sym ((bytes_eq-Decides y.name x.name).0 e) ∙ (bytes_eq-Decides y.name z.name).0 f);
}

-- an AVP of A has a partner: that of B with its key, if B has one
abbrev pub IsAvpThere : Dictionary → Dictionary → ℕ → Option ℕ → Type 0
IsAvpThere a b i o = (x : DictEntry) (j : ℕ) → slice_get a.entries i ≡ Some x → entry_of b x.key ≡ Some j → o ≡ Some j

-- the same of commands, by the messages that they are for
abbrev pub IsCommandThere : Dictionary → Dictionary → ℕ → Option ℕ → Type 0
IsCommandThere a b i o = (x y : PlainDefinition) (j : ℕ) → slice_get a.commands i ≡ Some x → slice_get b.commands j ≡ Some y → IsSameSelector x.head y.head → o ≡ Some j

pub record ArePaired (a b : Dictionary) (m : Matches) : Type 0 where
  pub avps : (length m.avps ≡ length a.entries) × ((i : ℕ) (o : Option ℕ) → slice_get m.avps i ≡ Some o → IsAvpThere a b i o)
  pub avps_back : AreBothWays m.avps m.avps_back (length b.entries)
  pub commands : (length m.commands ≡ length a.commands) × ((i : ℕ) (o : Option ℕ) → slice_get m.commands i ≡ Some o → IsCommandThere a b i o)
  pub commands_back : AreBothWays m.commands m.commands_back (length b.commands)

pub are_paired : (a b : Dictionary) → IsDictionary a → IsDictionary b → ArePaired a b (matches_of a b)
are_paired a b sound_a sound_b = record {
  avps = (length-map a.entries (avp_partner a b), avp_there);
  avps_back = both_ways has_key has_name a.entries b.entries (distinct_avps a sound_a) (distinct_avps b sound_b);
  commands = (length-map a.commands (command_partner a b), command_there);
  commands_back = both_ways has_messages has_command_name a.commands b.commands (distinct_commands_of a sound_a) (distinct_commands_of b sound_b);
}
  where
    avp_there : (i : ℕ) (o : Option ℕ) → slice_get (map (avp_partner a b) a.entries) i ≡ Some o → IsAvpThere a b i o
    avp_there i o e x j at key =
        let (z, z_at, is) = at_map (avp_partner a b) a.entries i o e in
        sym is ∙ ap (avp_partner a b) (same_Some z x (sym z_at ∙ at))
        ∙ ap (λ (p : Option ℕ). option_or p (option_and_then (unless_known has_key a.entries b.entries) (position (has_name x) b.entries))) key

    command_there : (i : ℕ) (o : Option ℕ) → slice_get (map (command_partner a b) a.commands) i ≡ Some o → IsCommandThere a b i o
    command_there i o e x y j at there same =
        let (z, z_at, is) = at_map (command_partner a b) a.commands i o e in
        let test : has_messages x y ≡ true = equal_messages x y (messages_by x.head y.head same) in
        let found : position (has_messages x) b.commands ≡ Some j = position_one (has_messages x) b.commands j y there test
        (λ q w w_at t. (distinct_commands_of b sound_b).one_key q j w x y w_at there t test) in
        sym is ∙ ap (command_partner a b) (same_Some z x (sym z_at ∙ at))
        ∙ ap (λ (p : Option ℕ). option_or p (option_and_then (unless_known has_messages a.commands b.commands) (position (has_command_name x) b.commands))) found
