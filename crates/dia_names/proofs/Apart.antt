-- No two AVPs are called the same.
use Rattle.std.proofs.Common.{◌≡◌, ◌∙◌, ℕ, Bool, true, false, cond, List, Option, Some, None, refl, sym, ap, subst, inl, inr}
use Rattle.std.specs.Prelude.{◌⊎◌, ◌&&◌, IsSome, IsTrue, is_some, not, option_and_then, slice_get, unwrap_or, codes}
use Rattle.std.specs.List.{list_all}
use Rattle.std.specs.Option.{option_map_or}
use Rattle.std.specs.Str.{bytes_eq}
use Rattle.std.proofs.lemmas.List.Folds.{list_any_at}
use Rattle.std.proofs.lemmas.Option.{none-some, same_Some, slice_get-get_or, slice_get_within}
use Rattle.std.proofs.lemmas.Slice.Eq.{bytes_eq-Decides}
use Rattle.dia_wire.specs.declared.Key.{Key}
use Rattle.dia_book.specs.Dictionary.{DictEntry, Dictionary, IsDictionary, entry_of}
use Rattle.dia_book.specs.Keys.{same_key}
use Rattle.dia_book.proofs.SameKeys.{same_key-true}
use Rattle.dia_terms.specs.Names.{is_name}
use Rattle.dia_valid.specs.Valid.{known}
use Rattle.dia_valid.proofs.Entries.{all_at, at_position}
use Rattle.dia_names.specs.Names.{AreApart, IsKnown, IsSmall, avp_name, has_name, is_taken, key_text, mark, second_name}
use Rattle.dia_names.proofs.Colons.{HasNoColon, is_no_colon, key_has_one, key_text_injective, name_has_none}

never : {X : Type 0} (b : Bool) → b ≡ true → b ≡ false → X
never b e f = absurd (let bad : true ≡ false = sym e ∙ f in cc)

not_none : (o : Option DictEntry) → IsSome o → ¬ (o ≡ None)
not_none None some is = cc
not_none (Some x) some is = cc

-- ---- entries

-- the entry of a key, with its place
record IsEntry (d : Dictionary) (key : Key) (e : DictEntry) : Type 0 where
  place : ℕ
  at : slice_get d.entries place ≡ Some e
  own : e.key ≡ key

entry_is : (d : Dictionary) (key : Key) (e : DictEntry) → known d key ≡ Some e → IsEntry d key e
entry_is d key e is = by (entry_of d key) refl
  where
    by : (o : Option ℕ) → entry_of d key ≡ o → IsEntry d key e
    by None none = absurd (none-some e (sym (ap (λ (o : Option ℕ). option_and_then (λ i. slice_get d.entries i) o) none) ∙ is))
    by (Some i) found =
        let p = at_position (λ (x : DictEntry). same_key key x.key) d.entries i found in
        let same : p.0 ≡ e = same_Some p.0 e (sym p.1 ∙ sym (ap (λ (o : Option ℕ). option_and_then (λ j. slice_get d.entries j) o) found) ∙ is) in
        record { place = i; at = p.1 ∙ ap (λ (x : DictEntry). Some x) same; own = ap (λ (x : DictEntry). x.key) (sym same) ∙ sym (same_key-true key p.0.key p.2) }

-- two of one name have one key
one_key : (d : Dictionary) → IsDictionary d → (k j : Key) (e f : DictEntry) → IsEntry d k e → IsEntry d j f → e.name ≡ f.name → k ≡ j
one_key d is k j e f x y same =
    let place = is.distinct_names x.place y.place e f x.at y.at same in
    let entry : e ≡ f = same_Some e f (sym x.at ∙ ap (slice_get d.entries) place ∙ y.at) in
    sym x.own ∙ ap (λ (z : DictEntry). z.key) entry ∙ y.own

has_it : (d : Dictionary) (k : Key) (e : DictEntry) (name : List ℕ) → IsEntry d k e → e.name ≡ name → has_name d name ≡ true
has_it d k e name x same =
    let within = slice_get_within d.entries x.place e x.at in
    let here = same_Some _ e (sym (slice_get-get_or d.entries x.place e within) ∙ x.at) in
    list_any_at (λ (y : DictEntry). bytes_eq y.name name) d.entries x.place e within (ap (λ (y : DictEntry). bytes_eq y.name name) here ∙ (bytes_eq-Decides e.name name).1 same)

clean : (d : Dictionary) → IsDictionary d → (k : Key) (e : DictEntry) → IsEntry d k e → HasNoColon e.name
clean d is k e x = name_has_none e.name (all_at (λ (y : DictEntry). IsTrue (is_name y.name)) d.entries x.place e is.entry_names x.at)

module _ (a b : Dictionary) (sound : IsDictionary a) (other : IsDictionary b) where
  -- what an AVP is called, and why: by its name in A, or in B, or by its code and vendor
  data IsCalled (key : Key) (name : List ℕ) : Type 0 where
    First : (e : DictEntry) (is : IsEntry a key e) (same : name ≡ e.name) → IsCalled key name
    Second : (e : DictEntry) (is : IsEntry b key e) (free : has_name a e.name ≡ false) (same : name ≡ e.name) → IsCalled key name
    Marked : (same : name ≡ key_text key) → IsCalled key name

  called : (key : Key) → IsKnown a b key → IsCalled key (avp_name a b key)
  called key some = first (known a key) refl
    where
      second : known a key ≡ None → (o : Option DictEntry) → known b key ≡ o → IsCalled key (option_map_or (second_name a) o (codes "AVP"))
      second none None is = absurd (neither some)
        where
          neither : IsSome (known a key) ⊎ IsSome (known b key) → ⊥
          neither (inl h) = not_none (known a key) h none
          neither (inr h) = not_none (known b key) h is
      second none (Some e) is = by (has_name a e.name) refl
        where
          entry : IsEntry b key e
          entry = entry_is b key e is

          unknown : is_some (known a e.key) ≡ false
          unknown = ap (λ (k : Key). is_some (known a k)) entry.own ∙ ap is_some none

          by : (t : Bool) → has_name a e.name ≡ t → IsCalled key (second_name a e)
          by true taken =
              let marked : mark a e ≡ Some (key_text e.key) = (λ i. cond (taken i && not (unknown i)) (Some (key_text e.key)) None) in
              Marked (ap (λ o. unwrap_or o e.name) marked ∙ ap key_text entry.own)
          by false free =
              let plain : mark a e ≡ None = (λ i. cond (free i && not (unknown i)) (Some (key_text e.key)) None) in
              Second e entry free (ap (λ o. unwrap_or o e.name) plain)

      first : (o : Option DictEntry) → known a key ≡ o → IsCalled key (option_map_or (λ e. e.name) o (option_map_or (second_name a) (known b key) (codes "AVP")))
      first None none = second none (known b key) refl
      first (Some e) is = First e (entry_is a key e is) refl

  one_avp : (k j : Key) (x y : List ℕ) → IsSmall k → IsSmall j → x ≡ y → IsCalled k x → IsCalled j y → k ≡ j
  one_avp k j x y small small' same (First e is own) (First f at other') = one_key a sound k j e f is at (sym own ∙ same ∙ other')
  one_avp k j x y small small' same (First e is own) (Second f at free other') = never (has_name a f.name) (has_it a k e f.name is (sym own ∙ same ∙ other')) free
  one_avp k j x y small small' same (First e is own) (Marked other') = never (list_all is_no_colon (key_text j)) (ap (list_all is_no_colon) (sym (sym own ∙ same ∙ other')) ∙ clean a sound k e is) (key_has_one j)
  one_avp k j x y small small' same (Second e is free own) (First f at other') = never (has_name a e.name) (has_it a j f e.name at (sym other' ∙ sym same ∙ own)) free
  one_avp k j x y small small' same (Second e is free own) (Second f at free' other') = one_key b other k j e f is at (sym own ∙ same ∙ other')
  one_avp k j x y small small' same (Second e is free own) (Marked other') = never (list_all is_no_colon (key_text j)) (ap (list_all is_no_colon) (sym (sym own ∙ same ∙ other')) ∙ clean b other k e is) (key_has_one j)
  one_avp k j x y small small' same (Marked own) (First f at other') = never (list_all is_no_colon (key_text k)) (ap (list_all is_no_colon) (sym own ∙ same ∙ other') ∙ clean a sound j f at) (key_has_one k)
  one_avp k j x y small small' same (Marked own) (Second f at free other') = never (list_all is_no_colon (key_text k)) (ap (list_all is_no_colon) (sym own ∙ same ∙ other') ∙ clean b other j f at) (key_has_one k)
  one_avp k j x y small small' same (Marked own) (Marked other') = key_text_injective k j small small' (sym own ∙ same ∙ other')

pub apart : (a b : Dictionary) → IsDictionary a → IsDictionary b → AreApart a b
apart a b sound other k j small small' first second same =
    one_avp a b sound other k j (avp_name a b k) (avp_name a b j) small small' same (called a b sound other k first) (called a b sound other j second)
