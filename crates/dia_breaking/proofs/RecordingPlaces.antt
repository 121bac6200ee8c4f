-- One key more that is recorded exactly, and the places of what is recorded.
use Rattle.std.proofs.Common.{◌≡◌, ℕ, ◌<◌, arith, Bool, true, false, List, [], ◌∷◌, ◌++◌, length, filter, Option, Some, None, refl, sym, ap, subst, ◌∙◌, inl, inr}
use Rattle.std.specs.Prelude.{◌⊎◌, ◌&&◌, is_some, IsSome, Contains, slice_get, position, if◌then◌else◌}
use Rattle.std.specs.HashMap.{get}
use Rattle.std.proofs.lemmas.Bool.{both_ways}
use Rattle.std.proofs.lemmas.List.{append-nil, map-append}
use Rattle.std.proofs.lemmas.List.Elements.{All-nil, All-push, Contains-push_cases, filter-append}
use Rattle.dia_wire.specs.declared.Key.{Key}
use Rattle.dia_book.specs.Keys.{same_key}
use Rattle.dia_book.specs.Dictionary.{Dictionary, IsDictionary}
use Rattle.dia_book.proofs.Members.{AreApart, AreApart-filter, position-is_some}
use Rattle.dia_book.proofs.SameKeys.{same_key-equal, same_key-true}
use Rattle.dia_valid.proofs.Entries.{at_position}
use Rattle.dia_terms.specs.declared.Unknown.{Unknown}
use Rattle.dia_terms.specs.declared.Sends.{Sends}
use Rattle.dia_breaking.specs.declared.keys.Own.{Own}
use Rattle.dia_breaking.specs.declared.keys.Recording.{Recording}
use Rattle.dia_breaking.specs.SentKeys.{AreSentInOrder}
use Rattle.dia_breaking.specs.Recording.{Adds, AreExactlyRecorded, IsExactRecording, IsExactlyOwn, is_news}
use Rattle.dia_breaking.specs.Sides.{sides}
use Rattle.dia_breaking.proofs.Lists.{contains_at}
use Rattle.dia_breaking.proofs.OrderedKeys.{apart_of_images, sent_apart}

no_member : {X : Type 0} (x : X) → Contains [] x → ⊥
no_member x (i, within, is) = absurd (let e : i < 0 = within in omega (arith, e))

module _ (da db : Dictionary) (who : Sends) (u : Unknown) where
  pub none_exactly_recorded : (recording : Recording) → recording.own.items ≡ [] → AreExactlyRecorded (sides da db who u) [] recording
  none_exactly_recorded recording items = record {
    all = [];
    each = (refl, All-nil (IsExactlyOwn (sides da db who u)));
    recorded_are = items;
    have_places = λ own is. absurd (no_member own (subst (λ (xs : List Own). Contains xs own) items is));
  }

  module _ (keys : List Key) (key : Key) (own : Own) (old new : Recording) (recorded : AreExactlyRecorded (sides da db who u) keys old) (same : own.key ≡ key) (is : IsExactlyOwn (sides da db who u) own)
      (adds : Adds own old new) where
    items_more : (b : Bool) → is_news own ≡ b → new.own.items ≡ (if b then old.own.items ++ own ∷ [] else old.own.items) → new.own.items ≡ filter is_news (recorded.all ++ own ∷ [])
    items_more true e items =
        items ∙ ap (λ (xs : List Own). xs ++ own ∷ []) recorded.recorded_are ∙ sym (filter-append is_news recorded.all (own ∷ []) ∙ ap (λ (b : Bool). filter is_news recorded.all ++ (if b then own ∷ [] else [])) e)
    items_more false e items =
        items ∙ recorded.recorded_are ∙ sym (filter-append is_news recorded.all (own ∷ []) ∙ ap (λ (b : Bool). filter is_news recorded.all ++ (if b then own ∷ [] else [])) e ∙ append-nil (filter is_news recorded.all))

    places_more : (b : Bool) → is_news own ≡ b → (o : Own) → Contains new.own.items o → IsSome (get same_key new.places o.key)
    places_more b e o i = by b e (subst (λ (xs : List Own). Contains xs o) (adds.items ∙ ap (λ (t : Bool). if t then old.own.items ++ own ∷ [] else old.own.items) e) i)
      where
        here : (b c : Bool) → is_news own ≡ b → same_key own.key o.key ≡ c → get same_key new.places o.key ≡ (if b && c then Some (length old.own.items) else get same_key old.places o.key)
        here b c e f = adds.places o.key ∙ ap (λ (t : Bool). if t && same_key own.key o.key then Some (length old.own.items) else get same_key old.places o.key) e
            ∙ ap (λ (t : Bool). if b && t then Some (length old.own.items) else get same_key old.places o.key) f

        kept : (b c : Bool) → get same_key new.places o.key ≡ (if b && c then Some (length old.own.items) else get same_key old.places o.key) → IsSome (get same_key old.places o.key)
            → IsSome (get same_key new.places o.key)
        kept true true is had = ap (λ (p : Option ℕ). is_some p) is
        kept true false is had = ap (λ (p : Option ℕ). is_some p) is ∙ had
        kept false c is had = ap (λ (p : Option ℕ). is_some p) is ∙ had

        by : (b : Bool) → is_news own ≡ b → Contains (if b then old.own.items ++ own ∷ [] else old.own.items) o → IsSome (get same_key new.places o.key)
        by false e i = kept false (same_key own.key o.key) (here false (same_key own.key o.key) e refl) (recorded.have_places o i)
        by true e i = last (Contains-push_cases old.own.items own o i)
          where
            last : Contains old.own.items o ⊎ (own ≡ o) → IsSome (get same_key new.places o.key)
            last (inl j) = kept true (same_key own.key o.key) (here true (same_key own.key o.key) e refl) (recorded.have_places o j)
            last (inr f) = ap (λ (p : Option ℕ). is_some p) (here true true e (same_key-equal own.key o.key (ap (λ (x : Own). x.key) f)))

    pub one_more_exactly : AreExactlyRecorded (sides da db who u) (keys ++ key ∷ []) new
    one_more_exactly = record {
      all = recorded.all ++ own ∷ [];
      each = (
        map-append (λ (o : Own). o.key) recorded.all (own ∷ []) ∙ ap (λ (ks : List Key). ks ++ own.key ∷ []) recorded.each.0 ∙ ap (λ (k : Key). keys ++ k ∷ []) same,
        All-push (IsExactlyOwn (sides da db who u)) recorded.all own recorded.each.1 is,
      );
      recorded_are = items_more (is_news own) refl adds.items;
      have_places = places_more (is_news own) refl;
    }

  -- ---- places

  module _ (recording : Recording) (placed : (key : Key) (place : ℕ) → get same_key recording.places key ≡ Some place → (own : Own) × (slice_get recording.own.items place ≡ Some own) × (own.key ≡ key))
      (have : (own : Own) → Contains recording.own.items own → IsSome (get same_key recording.places own.key)) (apart : AreApart (λ (own : Own). own.key) recording.own.items) where
    abbrev has_key : Key → Own → Bool
    has_key key own = same_key own.key key

    place_of : (key : Key) → get same_key recording.places key ≡ position (has_key key) recording.own.items
    place_of key = by (position (has_key key) recording.own.items) refl
      where
        there : (j : ℕ) (x : Own) → slice_get recording.own.items j ≡ Some x → x.key ≡ key → (p : Option ℕ) → get same_key recording.places key ≡ p → IsSome p → p ≡ Some j
        there j x at same None e some = absurd (both_ways false refl some)
        there j x at same (Some place) e some = let (own, here, k) = placed key place e in ap (λ (n : ℕ). Some n) (apart place j own x here at (k ∙ sym same))

        missing : position (has_key key) recording.own.items ≡ None → (p : Option ℕ) → get same_key recording.places key ≡ p → p ≡ None
        missing none None e = refl
        missing none (Some place) e =
            let (own, here, k) = placed key place e in
            absurd (both_ways (is_some (position (has_key key) recording.own.items)) (ap (λ (o : Option ℕ). is_some o) none)
            (position-is_some (has_key key) recording.own.items place own here (same_key-equal own.key key k)))

        by : (o : Option ℕ) → position (has_key key) recording.own.items ≡ o → get same_key recording.places key ≡ position (has_key key) recording.own.items
        by None e = missing e (get same_key recording.places key) refl ∙ sym e
        by (Some j) e =
            let (x, at, is) = at_position (has_key key) recording.own.items j e in
            let same = same_key-true x.key key is in
            let some : IsSome (get same_key recording.places key) = subst (λ (k : Key). IsSome (get same_key recording.places k)) same (have x (contains_at recording.own.items j x at)) in
            there j x at same (get same_key recording.places key) refl some ∙ sym e

  pub exact_recording : (keys : List Key) (recording : Recording) → IsDictionary da → IsDictionary db → AreSentInOrder da db who keys → AreExactlyRecorded (sides da db who u) keys recording
      → ((key : Key) (place : ℕ) → get same_key recording.places key ≡ Some place → (own : Own) × (slice_get recording.own.items place ≡ Some own) × (own.key ≡ key)) → IsExactRecording (sides da db who u) recording
  exact_recording keys recording sa sb sent recorded placed = record {
    keys = keys;
    all = recorded.all;
    sent = sent;
    each = recorded.each;
    recorded_are = recorded.recorded_are;
    places = place_of recording placed recorded.have_places (subst (AreApart (λ (own : Own). own.key)) (sym recorded.recorded_are)
        (AreApart-filter (λ (own : Own). own.key) is_news recorded.all (apart_of_images (λ (own : Own). own.key) recorded.all keys recorded.each.0 (sent_apart da db sa sb who keys sent))));
  }
