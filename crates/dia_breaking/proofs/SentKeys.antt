-- The keys of the AVPs that the sender's side may send, and one that neither dictionary knows.
use Rattle.std.proofs.Common.{◌≡◌, ℕ, ◌+◌, ◌<◌, ◌≤◌, Bool, List, [], ◌∷◌, ◌++◌, length, map, filter, take, Option, Some, None, refl, sym, ap, subst, ◌∙◌, arith, inl, inr, append_assoc}
use Rattle.std.specs.Prelude.{◌⊎◌, not, is_some, IsSome, Contains, slice_get}
use Rattle.std.proofs.lemmas.List.{length-append, length-map, take_all}
use Rattle.std.proofs.lemmas.List.Elements.{Contains-append_left, Contains-append_right, Contains-push, filter-append}
use Rattle.dia_wire.specs.declared.Key.{Key}
use Rattle.dia_book.specs.Dictionary.{DictEntry, Dictionary, IsDictionary, entry_of}
use Rattle.dia_book.proofs.Members.{at_Contains, into_filter}
use Rattle.dia_valid.proofs.Members.{IsIn, contains_in, in_left, in_right, some_of}
use Rattle.dia_terms.specs.declared.Sends.{Sends}
use Rattle.dia_terms.specs.declared.Sends.TheVariants.{Any, Known, Filled, Listed}
use Rattle.dia_breaking_shortest.proofs.Strangers.{key_at, key_in, at_most}
use Rattle.dia_breaking.specs.SentKeys.{AreSentInOrder, AreSentKeys, HasKeys, entry_keys, keys_of_b_alone}
use Rattle.dia_breaking.proofs.Lists.{contains_at}
use Rattle.dia_breaking.proofs.Shortest.{one_key_more}

-- one of so many keys is strange
pub some_strange : (da db : Dictionary) (n : ℕ) → IsDictionary da → IsDictionary db → 32768 < n → ((code : ℕ) → code < n → IsSome (entry_of da (key_at code)) ⊎ IsSome (entry_of db (key_at code))) → ⊥
some_strange da db n sa sb many all =
    let le = at_most n (entry_keys da ++ entry_keys db) (λ code lt. there code (all code lt)) in
    let both = length-append (entry_keys da) (entry_keys db) in
    let first = length-map da.entries (λ e. e.key) in
    let second = length-map db.entries (λ e. e.key) in
    let few_a = sa.few in
    let few_b = sb.few in
    omega (arith, le, both, first, second, few_a, few_b, many)
  where
    there : (code : ℕ) → IsSome (entry_of da (key_at code)) ⊎ IsSome (entry_of db (key_at code)) → IsIn (key_at code) (entry_keys da ++ entry_keys db)
    there code (inl h) = let i = some_of (entry_of da (key_at code)) h in in_left (entry_keys da) (entry_keys db) (key_at code) (key_in da (key_at code) i.0 i.1)
    there code (inr h) = let i = some_of (entry_of db (key_at code)) h in in_right (entry_keys da) (entry_keys db) (key_at code) (key_in db (key_at code) i.0 i.1)

-- ---- keys that a list has

pub has_all : (d : Dictionary) (keys : List Key) → keys ≡ entry_keys d → HasKeys d keys
has_all d keys is key h = let i = some_of (entry_of d key) h in contains_in keys key (subst (λ ks. IsIn key ks) (sym is) (key_in d key i.0 i.1))

-- ---- the first strange key

-- one dictionary or the other knows the key of each code below n
abbrev pub AreKnownBelow : Dictionary → Dictionary → ℕ → Type 0
AreKnownBelow da db n = (code : ℕ) → code < n → IsSome (entry_of da (key_at code)) ⊎ IsSome (entry_of db (key_at code))

-- ---- all keys that are sent

pub sent_of_any : (da db : Dictionary) (keys : List Key) → AreSentInOrder da db Any keys → AreSentKeys da db Any keys
sent_of_any da db keys (stranger, is, are) = record {
  own = λ key some. into key (Contains-append_left (entry_keys da ++ keys_of_b_alone da db) (stranger ∷ []) key (of_a key some));
  others = λ any key some. into key (Contains-append_left (entry_keys da ++ keys_of_b_alone da db) (stranger ∷ []) key (of_b key some (entry_of da key) refl));
  strange = λ any. (stranger, into stranger (Contains-push (entry_keys da ++ keys_of_b_alone da db) stranger), is.strange, is.vendor);
}
  where
    into : (key : Key) → Contains ((entry_keys da ++ keys_of_b_alone da db) ++ stranger ∷ []) key → Contains keys key
    into key there = subst (λ (ks : List Key). Contains ks key) (sym are) there

    of_a : (key : Key) → IsSome (entry_of da key) → Contains (entry_keys da ++ keys_of_b_alone da db) key
    of_a key some = Contains-append_left (entry_keys da) (keys_of_b_alone da db) key (has_all da (entry_keys da) refl key some)

    unknown_to_a : Key → Bool
    unknown_to_a key = not (is_some (entry_of da key))

    of_b : (key : Key) → IsSome (entry_of db key) → (o : Option ℕ) → entry_of da key ≡ o → Contains (entry_keys da ++ keys_of_b_alone da db) key
    of_b key some (Some i) e = of_a key (ap (λ (o : Option ℕ). is_some o) e)
    of_b key some None e =
        let there = at_Contains (entry_keys db) key (has_all db (entry_keys db) refl key some) in
        let kept = into_filter unknown_to_a (entry_keys db) there.place key there.at (ap (λ (o : Option ℕ). not (is_some o)) e) in
        Contains-append_right (entry_keys da) (keys_of_b_alone da db) key (contains_at (keys_of_b_alone da db) kept.place key kept.at)

pub sent_of_known : (da db : Dictionary) (keys : List Key) → keys ≡ entry_keys da → AreSentKeys da db Known keys
sent_of_known da db keys are = record {
  own = has_all da keys are;
  others = λ any. absurd (let bad : Known ≡ Any = any in cc);
  strange = λ any. absurd (let bad : Known ≡ Any = any in cc);
}

pub sent_of_filled : (da db : Dictionary) (keys : List Key) → keys ≡ entry_keys da → AreSentKeys da db Filled keys
sent_of_filled da db keys are = record {
  own = has_all da keys are;
  others = λ any. absurd (let bad : Filled ≡ Any = any in cc);
  strange = λ any. absurd (let bad : Filled ≡ Any = any in cc);
}

pub sent_of_listed : (da db : Dictionary) (keys : List Key) → keys ≡ entry_keys da → AreSentKeys da db Listed keys
sent_of_listed da db keys are = record {
  own = has_all da keys are;
  others = λ any. absurd (let bad : Listed ≡ Any = any in cc);
  strange = λ any. absurd (let bad : Listed ≡ Any = any in cc);
}

pub sent_of : (da db : Dictionary) (who : Sends) (keys : List Key) → AreSentInOrder da db who keys → AreSentKeys da db who keys
sent_of da db Any keys in_order = sent_of_any da db keys in_order
sent_of da db Known keys in_order = sent_of_known da db keys in_order
sent_of da db Filled keys in_order = sent_of_filled da db keys in_order
sent_of da db Listed keys in_order = sent_of_listed da db keys in_order

-- ---- the keys that a dictionary doesn't know, of the entries of another

pub unknown_more : (p : Key → Bool) (entries : List DictEntry) (i : ℕ) (x : DictEntry) (key : Key) (start old new : List Key) → slice_get entries i ≡ Some x → key ≡ x.key
    → new ≡ old ++ filter p (key ∷ []) → old ≡ start ++ filter p (map (λ (e : DictEntry). e.key) (take i entries)) → new ≡ start ++ filter p (map (λ (e : DictEntry). e.key) (take (i + 1) entries))
unknown_more p entries i x key start old new at same is before =
    let so_far = map (λ (e : DictEntry). e.key) (take i entries) in
    is ∙ ap (λ (ks : List Key). ks ++ filter p (key ∷ [])) before ∙ append_assoc start (filter p so_far) (filter p (key ∷ []))
    ∙ ap (λ (ks : List Key). start ++ ks) (sym (filter-append p so_far (key ∷ []))) ∙ ap (λ (ks : List Key). start ++ filter p ks) (one_key_more entries i x key at same)

pub unknown_all : (p : Key → Bool) (entries : List DictEntry) (i : ℕ) (start all : List Key) → length entries ≤ i → all ≡ start ++ filter p (map (λ (e : DictEntry). e.key) (take i entries))
    → all ≡ start ++ filter p (map (λ (e : DictEntry). e.key) entries)
unknown_all p entries i start all end is = is ∙ ap (λ (es : List DictEntry). start ++ filter p (map (λ (e : DictEntry). e.key) es)) (take_all i entries end)
