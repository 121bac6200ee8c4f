-- No line is added if and only if both dictionaries mean the same.
use Rattle.std.proofs.Common.{◌≡◌, ℕ, ◌<◌, List, length, Option, Some, sym, ap, subst, ◌∙◌}
use Rattle.std.specs.Prelude.{Any, IsSome, slice_get}
use Rattle.std.proofs.lemmas.Option.{get_or_from_slice_get, same_Some, slice_get-get_or, slice_get_within}
use Rattle.dia_book.specs.Dictionary.{Dictionary, DictEntry, PlainDefinition, IsCommandHead, IsDictionary, entry_of}
use Rattle.dia_book.specs.Keys.{same_key}
use Rattle.dia_book.proofs.Members.{All-from_places}
use Rattle.dia_book.proofs.SameKeys.{same_key-equal, same_key-true}
use Rattle.dia_valid.proofs.Entries.{all_at}
use Rattle.dia_valid.proofs.Members.{some_of, there_is}
use Rattle.dia_differences.specs.declared.owner.Owner.TheVariants as of
use Rattle.dia_differences.specs.Partners.{Matches}
use Rattle.dia_differences.specs.Same.{IsSameAvp, IsSameCommand, IsSameDictionary}
use Rattle.dia_differences.specs.Partners.{AreBothWays}
use Rattle.dia_differences.specs.Matching.{partner_of}
use Rattle.dia_differences.proofs.SameThings.{HasSameAvp, HasSameCommand}
use Rattle.dia_differences.proofs.Pairing.{ArePaired}
use Rattle.dia_differences.proofs.Paired.{partner_from, partner_there, position_one, some_is}
use Rattle.dia_differences.proofs.CorrespondingRules.{Aligned, have_rules, same_rules}
use Rattle.dia_differences.proofs.SameParts.{avp_fields, avp_key, avp_rules_same, avp_same, avp_sym, command_fields, command_rules_same, command_same, command_sym, selector_same}

-- a member of a list with a fact about it, at its place
pub record There {X : Type 0} (P : X → Type 0) (xs : List X) : Type 0 where
  pub place : ℕ
  pub item : X
  pub at : slice_get xs place ≡ Some item
  pub is : P item

pub from_any : {X : Type 0} (P : X → Type 0) (xs : List X) → Any P xs → There P xs
from_any P xs (k, x, within, here, p) = record { place = k; item = x; at = slice_get-get_or xs k x within ∙ ap (λ y. Some y) here; is = p }

to_any : {X : Type 0} (P : X → Type 0) (xs : List X) → There P xs → Any P xs
to_any P xs h = (h.place, h.item, slice_get_within xs h.place h.item h.at, get_or_from_slice_get xs h.place h.item h.item h.at, h.is)

-- the partners are none, but where a place of the first has it as its partner
back_place : (there back : List (Option ℕ)) (count j k : ℕ) → AreBothWays there back count → j < count → slice_get back j ≡ Some (Some k) → partner_of there k count ≡ Some j
back_place there back count j k both within at = partner_from there k count j (both.back_of k j at) within

aligned_back : (a b : Dictionary) (there back : List (Option ℕ)) → Aligned a b there → AreBothWays there back (length b.entries) → length there ≡ length a.entries
    → ((j : ℕ) → j < length b.entries → (k : ℕ) × (slice_get back j ≡ Some (Some k))) → Aligned b a back
aligned_back a b there back aligned both many all = record {
  each = λ j y at.
      let within = slice_get_within b.entries j y at in
      let (k, is) = all j within in
      let inside : k < length a.entries = subst (λ (n : ℕ). k < n) many (slice_get_within there k (Some j) (both.back_of k j is)) in
      let (x, x_at) = there_is a.entries k inside in
      let pair = aligned.each k x x_at in
      let place : pair.place ≡ j = same_Some pair.place j (sym pair.is ∙ back_place there back (length b.entries) j k both within is) in
      let one : pair.entry ≡ y = same_Some pair.entry y (sym pair.at ∙ ap (slice_get b.entries) place ∙ at) in
      record { place = k; entry = x; is = partner_from back j (length a.entries) k is inside; at = x_at; same = sym pair.same ∙ ap (λ (e : DictEntry). e.key) one };
}

module _ (a b : Dictionary) (partners : Matches) (sound_a : IsDictionary a) (sound_b : IsDictionary b) (are : ArePaired a b partners) where
  head_a : (i : ℕ) (x : PlainDefinition) → slice_get a.commands i ≡ Some x → IsCommandHead x.head
  head_a i x at = all_at (λ (c : PlainDefinition). IsCommandHead c.head) a.commands i x sound_a.command_heads at

  head_b : (j : ℕ) (y : PlainDefinition) → slice_get b.commands j ≡ Some y → IsCommandHead y.head
  head_b j y at = all_at (λ (c : PlainDefinition). IsCommandHead c.head) b.commands j y sound_b.command_heads at

  -- ---- from no lines to the same meaning

  module _ (avps : (i : ℕ) → i < length a.entries → HasSameAvp a b partners i)
      (avps_back : (j : ℕ) → j < length b.entries → IsSome (partner_of partners.avps_back j (length a.entries)))
      (commands : (i : ℕ) → i < length a.commands → HasSameCommand a b partners i)
      (commands_back : (j : ℕ) → j < length b.commands → IsSome (partner_of partners.commands_back j (length a.commands))) where
    there : Aligned a b partners.avps
    there = record {
      each = λ i x at.
          let h = avps i (slice_get_within a.entries i x at) in
          let (y, y_at) = there_is b.entries h.place (partner_there partners.avps i (length b.entries) h.place h.is).1 in
          record { place = h.place; entry = y; is = h.is; at = y_at; same = sym (avp_key a b i h.place x y at y_at h.fields) };
    }

    named : (j : ℕ) → j < length b.entries → (k : ℕ) × (slice_get partners.avps_back j ≡ Some (Some k))
    named j within =
        let (k, is) = some_of (partner_of partners.avps_back j (length a.entries)) (avps_back j within) in
        (k, (partner_there partners.avps_back j (length a.entries) k is).0)

    back : Aligned b a partners.avps_back
    back = aligned_back a b partners.avps partners.avps_back there are.avps_back are.avps.0 named

    avp_at : (i : ℕ) (x : DictEntry) → slice_get a.entries i ≡ Some x → (h : HasSameAvp a b partners i) (y : DictEntry) → slice_get b.entries h.place ≡ Some y → IsSameAvp x y
    avp_at i x at h y y_at =
        avp_same a b i h.place x y at y_at h.fields (same_rules a b partners (of.Avp i) (of.Avp h.place) sound_a sound_b there back h.rules)

    avp_there : (i : ℕ) (x : DictEntry) → slice_get a.entries i ≡ Some x → Any (IsSameAvp x) b.entries
    avp_there i x at =
        let h = avps i (slice_get_within a.entries i x at) in
        let pair = there.each i x at in
        let (y, y_at) = there_is b.entries h.place (partner_there partners.avps i (length b.entries) h.place h.is).1 in
        to_any (IsSameAvp x) b.entries (record { place = h.place; item = y; at = y_at; is = avp_at i x at h y y_at })

    avp_back : (j : ℕ) (y : DictEntry) → slice_get b.entries j ≡ Some y → Any (IsSameAvp y) a.entries
    avp_back j y at =
        let pair = back.each j y at in
        let within = slice_get_within b.entries j y at in
        let h = avps pair.place (slice_get_within a.entries pair.place pair.entry pair.at) in
        let is = back_place partners.avps partners.avps_back (length b.entries) j pair.place are.avps_back within (partner_there partners.avps_back j (length a.entries) pair.place pair.is).0 in
        let place : h.place ≡ j = same_Some h.place j (sym h.is ∙ is) in
        to_any (IsSameAvp y) a.entries (record { place = pair.place; item = pair.entry; at = pair.at; is = avp_sym pair.entry y (avp_at pair.place pair.entry pair.at h y (ap (slice_get b.entries) place ∙ at)) })

    command_at : (i : ℕ) (x : PlainDefinition) → slice_get a.commands i ≡ Some x → (h : HasSameCommand a b partners i) (y : PlainDefinition) → slice_get b.commands h.place ≡ Some y → IsSameCommand x y
    command_at i x at h y y_at =
        command_same a b i h.place x y at y_at (head_a i x at) (head_b h.place y y_at) h.fields
        (same_rules a b partners (of.Command i) (of.Command h.place) sound_a sound_b there back h.rules)

    command_there : (i : ℕ) (x : PlainDefinition) → slice_get a.commands i ≡ Some x → Any (IsSameCommand x) b.commands
    command_there i x at =
        let h = commands i (slice_get_within a.commands i x at) in
        let (y, y_at) = there_is b.commands h.place (partner_there partners.commands i (length b.commands) h.place h.is).1 in
        to_any (IsSameCommand x) b.commands (record { place = h.place; item = y; at = y_at; is = command_at i x at h y y_at })

    command_back : (j : ℕ) (y : PlainDefinition) → slice_get b.commands j ≡ Some y → Any (IsSameCommand y) a.commands
    command_back j y at =
        let within = slice_get_within b.commands j y at in
        let (k, some) = some_of (partner_of partners.commands_back j (length a.commands)) (commands_back j within) in
        let (named, inside) = partner_there partners.commands_back j (length a.commands) k some in
        let (x, x_at) = there_is a.commands k inside in
        let h = commands k inside in
        let is = back_place partners.commands partners.commands_back (length b.commands) j k are.commands_back within named in
        let place : h.place ≡ j = same_Some h.place j (sym h.is ∙ is) in
        to_any (IsSameCommand y) a.commands (record { place = k; item = x; at = x_at; is = command_sym x y (command_at k x x_at h y (ap (slice_get b.commands) place ∙ at)) })

    pub same_without_lines : IsSameDictionary a b
    same_without_lines = (
      record {
        avps = All-from_places (λ (x : DictEntry). Any (IsSameAvp x) b.entries) a.entries avp_there;
        commands = All-from_places (λ (x : PlainDefinition). Any (IsSameCommand x) b.commands) a.commands command_there;
      },
      record {
        avps = All-from_places (λ (y : DictEntry). Any (IsSameAvp y) a.entries) b.entries avp_back;
        commands = All-from_places (λ (y : PlainDefinition). Any (IsSameCommand y) a.commands) b.commands command_back;
      },
    )

  -- ---- from the same meaning to no lines

  module _ (same : IsSameDictionary a b) where
    like : (i : ℕ) (x : DictEntry) → slice_get a.entries i ≡ Some x → There (IsSameAvp x) b.entries
    like i x at = from_any (IsSameAvp x) b.entries (all_at (λ (z : DictEntry). Any (IsSameAvp z) b.entries) a.entries i x same.0.avps at)

    like_command : (i : ℕ) (x : PlainDefinition) → slice_get a.commands i ≡ Some x → There (IsSameCommand x) b.commands
    like_command i x at = from_any (IsSameCommand x) b.commands (all_at (λ (z : PlainDefinition). Any (IsSameCommand z) b.commands) a.commands i x same.0.commands at)

    one_key : (i j : ℕ) (x y : DictEntry) → slice_get a.entries i ≡ Some x → slice_get b.entries j ≡ Some y → x.key ≡ y.key → slice_get partners.avps i ≡ Some (Some j)
    one_key i j x y at y_at key =
        let within : i < length partners.avps = subst (λ (n : ℕ). i < n) (sym are.avps.0) (slice_get_within a.entries i x at) in
        let (o, here) = there_is partners.avps i within in
        let entry : entry_of b x.key ≡ Some j = position_one (λ (z : DictEntry). same_key x.key z.key) b.entries j y y_at (same_key-equal x.key y.key key)
        (λ n z there test. sound_b.distinct_keys n j z y there y_at (sym (same_key-true x.key z.key test) ∙ key)) in
        here ∙ ap (λ (p : Option ℕ). Some p) (are.avps.1 i o here x j at entry)

    one_command : (i j : ℕ) (x y : PlainDefinition) → slice_get a.commands i ≡ Some x → slice_get b.commands j ≡ Some y → x.head ≡ y.head → slice_get partners.commands i ≡ Some (Some j)
    one_command i j x y at y_at head =
        let within : i < length partners.commands = subst (λ (n : ℕ). i < n) (sym are.commands.0) (slice_get_within a.commands i x at) in
        let (o, here) = there_is partners.commands i within in
        here ∙ ap (λ (p : Option ℕ). Some p) (are.commands.1 i o here x y j at y_at (selector_same x.head y.head (head_a i x at) head))

    aligned : Aligned a b partners.avps
    aligned = record {
      each = λ i x at.
          let h = like i x at in
          let is = partner_from partners.avps i (length b.entries) h.place (one_key i h.place x h.item at h.at h.is.key) (slice_get_within b.entries h.place h.item h.at) in
          record { place = h.place; entry = h.item; is = is; at = h.at; same = sym h.is.key };
    }

    named_back : (j : ℕ) → j < length b.entries → (k : ℕ) × (slice_get partners.avps_back j ≡ Some (Some k))
    named_back j within =
        let (y, at) = there_is b.entries j within in
        let h = from_any (IsSameAvp y) a.entries (all_at (λ (z : DictEntry). Any (IsSameAvp z) a.entries) b.entries j y same.1.avps at) in
        are.avps_back.there_of h.place j (one_key h.place j h.item y h.at at (sym h.is.key)) within

    command_named_back : (j : ℕ) → j < length b.commands → (k : ℕ) × (slice_get partners.commands_back j ≡ Some (Some k))
    command_named_back j within =
        let (y, at) = there_is b.commands j within in
        let h = from_any (IsSameCommand y) a.commands (all_at (λ (z : PlainDefinition). Any (IsSameCommand z) a.commands) b.commands j y same.1.commands at) in
        are.commands_back.there_of h.place j (one_command h.place j h.item y h.at at (sym h.is.head)) within

    aligned_other : Aligned b a partners.avps_back
    aligned_other = aligned_back a b partners.avps partners.avps_back aligned are.avps_back are.avps.0 named_back

    pub no_avp_line : (i : ℕ) → i < length a.entries → HasSameAvp a b partners i
    no_avp_line i within =
        let (x, at) = there_is a.entries i within in
        let h = like i x at in
        record {
          place = h.place;
          is = partner_from partners.avps i (length b.entries) h.place (one_key i h.place x h.item at h.at h.is.key) (slice_get_within b.entries h.place h.item h.at);
          fields = avp_fields a b i h.place x h.item at h.at h.is;
          rules = have_rules a b partners (of.Avp i) (of.Avp h.place) sound_a sound_b aligned aligned_other (avp_rules_same a b i h.place x h.item at h.at h.is);
        }

    pub no_added_avp : (j : ℕ) → j < length b.entries → IsSome (partner_of partners.avps_back j (length a.entries))
    no_added_avp j within =
        let (k, named) = named_back j within in
        let inside : k < length a.entries = subst (λ (n : ℕ). k < n) are.avps.0 (slice_get_within partners.avps k (Some j) (are.avps_back.back_of k j named)) in
        some_is (partner_of partners.avps_back j (length a.entries)) k (partner_from partners.avps_back j (length a.entries) k named inside)

    pub no_command_line : (i : ℕ) → i < length a.commands → HasSameCommand a b partners i
    no_command_line i within =
        let (x, at) = there_is a.commands i within in
        let h = like_command i x at in
        record {
          place = h.place;
          is = partner_from partners.commands i (length b.commands) h.place (one_command i h.place x h.item at h.at h.is.head) (slice_get_within b.commands h.place h.item h.at);
          fields = command_fields a b i h.place x h.item at h.at h.is;
          rules = have_rules a b partners (of.Command i) (of.Command h.place) sound_a sound_b aligned aligned_other (command_rules_same a b i h.place x h.item at h.at h.is);
        }

    pub no_added_command : (j : ℕ) → j < length b.commands → IsSome (partner_of partners.commands_back j (length a.commands))
    no_added_command j within =
        let (k, named) = command_named_back j within in
        let inside : k < length a.commands = subst (λ (n : ℕ). k < n) are.commands.0 (slice_get_within partners.commands k (Some j) (are.commands_back.back_of k j named)) in
        some_is (partner_of partners.commands_back j (length a.commands)) k (partner_from partners.commands_back j (length a.commands) k named inside)
