-- A dictionary and the words determine the answer.
use Rattle.std.proofs.Common.{◌≡◌, ℕ, ◌<◌, ◌≤◌, Bool, List, [], ◌∷◌, map, Option, Some, refl, sym, ap, subst, ◌∙◌, arith, inl, inr}
use Rattle.std.specs.Prelude.{◌⊎◌, slice_get}
use Rattle.std.proofs.lemmas.Bool.{cases_lt}
use Rattle.std.proofs.lemmas.Option.{none-some, same_Some}
use Rattle.dia_io.specs.declared.Exit.{Exit}
use Rattle.dia_io.specs.declared.Exit.TheVariants as exits
use Rattle.dia_wire.specs.declared.Key.{Key}
use Rattle.dia_book.specs.Dictionary.{Dictionary}
use Rattle.dia_book.proofs.Members.{at_map, into_map}
use Rattle.dia_valid.proofs.Members.{some_of}
use Rattle.dia_places.specs.Asked.{AreKeysOf, IsFirstUnknown, key_of}
use Rattle.dia_places.specs.Paths.{ArePaths, Path}
use Rattle.dia_uses.specs.Outcome.{AreLines, HaveNoPlace, HaveSomePlace, IsUsesText, all_lines, unknown_text}

abbrev some : Key → Option Key
some key = Some key

same_keys : (a b : List Key) → map some a ≡ map some b → a ≡ b
same_keys [] [] e = refl
same_keys [] (y ∷ b) e = absurd (let f : [] ≡ Some y ∷ map some b = e in cc)
same_keys (x ∷ a) [] e = absurd (let f : Some x ∷ map some a ≡ [] = e in cc)
same_keys (x ∷ a) (y ∷ b) e =
    let f : Some x ∷ map some a ≡ Some y ∷ map some b = e in
    let head : Some x ≡ Some y = cc in
    let tail : map some a ≡ map some b = cc in
    ap (λ (k : Key). k ∷ a) (same_Some x y head) ∙ ap (λ (ks : List Key). y ∷ ks) (same_keys a b tail)

one_keys : (d : Dictionary) (avps : List (List ℕ)) (a b : List Key) → AreKeysOf d avps a → AreKeysOf d avps b → a ≡ b
one_keys d avps a b h k = same_keys a b (sym h ∙ k)

-- a word that names no AVP, where each word names one
no_unknown : (d : Dictionary) (avps : List (List ℕ)) (keys : List Key) (word : List ℕ) → AreKeysOf d avps keys → IsFirstUnknown d avps word → ⊥
no_unknown d avps keys word are first =
    let named : slice_get (map some keys) first.place ≡ Some (key_of d word) =
    ap (λ (xs : List (Option Key)). slice_get xs first.place) (sym are) ∙ into_map (key_of d) avps first.place word first.is_word in
    let key = at_map some keys first.place (key_of d word) named in
    none-some key.0 (sym first.unknown ∙ sym key.2)

no_earlier : (d : Dictionary) (avps : List (List ℕ)) (v w : List ℕ) (a : IsFirstUnknown d avps v) (b : IsFirstUnknown d avps w) → a.place < b.place → ⊥
no_earlier d avps v w a b lt = let known = some_of (key_of d v) (b.before a.place v lt a.is_word) in none-some known.0 (sym a.unknown ∙ known.1)

one_unknown : (d : Dictionary) (avps : List (List ℕ)) (v w : List ℕ) → IsFirstUnknown d avps v → IsFirstUnknown d avps w → v ≡ w
one_unknown d avps v w a b = by (cases_lt a.place b.place) (cases_lt b.place a.place)
  where
    by : (a.place < b.place) ⊎ (b.place ≤ a.place) → (b.place < a.place) ⊎ (a.place ≤ b.place) → v ≡ w
    by (inl less) k = absurd (no_earlier d avps v w a b less)
    by (inr ge) (inl more) = absurd (no_earlier d avps w v b a more)
    by (inr ge) (inr le) = let same : a.place ≡ b.place = omega arith in same_Some v w (sym a.is_word ∙ ap (slice_get avps) same ∙ b.is_word)

-- some place, and none
no_both : (d : Dictionary) (keys : List Key) → HaveSomePlace d keys → HaveNoPlace d keys → ⊥
no_both d keys (key, path, by, among, is, lets) none = none-some by (sym (none key path among is) ∙ lets)

-- a dictionary determines the list of paths
abbrev IsOneList : Type 0
IsOneList = (d : Dictionary) (paths others : List Path) → ArePaths d paths → ArePaths d others → paths ≡ others

one_lines : IsOneList → (json : Bool) (d : Dictionary) (keys : List Key) (a b : List ℕ) → AreLines json d keys a → AreLines json d keys b → a ≡ b
one_lines one json d keys a b (ps, are, is) (qs, are', is') = is ∙ ap (λ (paths : List Path). all_lines json d paths keys) (one d ps qs are are') ∙ sym is'

pub one_text : IsOneList → (json : Bool) (d : Dictionary) (avps : List (List ℕ)) (e f : Exit) (a b : List ℕ) → IsUsesText json d avps e a → IsUsesText json d avps f b → (e ≡ f) × (a ≡ b)
one_text one json d avps exits.Yes exits.Yes a b (keys, are, some, lines) (keys', are', some', lines') =
    (refl, one_lines one json d keys a b lines (subst (λ (ks : List Key). AreLines json d ks b) (one_keys d avps keys' keys are' are) lines'))
one_text one json d avps exits.Yes exits.No a b (keys, are, some, lines) (keys', are', none, is) = absurd (no_both d keys some (subst (HaveNoPlace d) (one_keys d avps keys' keys are' are) none))
one_text one json d avps exits.Yes exits.Bad a b (keys, are, some, lines) (word, first, is) = absurd (no_unknown d avps keys word are first)
one_text one json d avps exits.No exits.Yes a b (keys, are, none, is) (keys', are', some, lines) = absurd (no_both d keys (subst (HaveSomePlace d) (one_keys d avps keys' keys are' are) some) none)
one_text one json d avps exits.No exits.No a b (keys, are, none, is) (keys', are', none', is') = (refl, is ∙ sym is')
one_text one json d avps exits.No exits.Bad a b (keys, are, none, is) (word, first, is') = absurd (no_unknown d avps keys word are first)
one_text one json d avps exits.Bad exits.Yes a b (word, first, is) (keys, are, some, lines) = absurd (no_unknown d avps keys word are first)
one_text one json d avps exits.Bad exits.No a b (word, first, is) (keys, are, none, is') = absurd (no_unknown d avps keys word are first)
one_text one json d avps exits.Bad exits.Bad a b (word, first, is) (word', first', is') = (refl, is ∙ ap (unknown_text json) (one_unknown d avps word word' first first') ∙ sym is')
