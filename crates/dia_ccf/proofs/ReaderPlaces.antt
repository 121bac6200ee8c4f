-- The tokens that the reader passed, and the places where they begin.
use Rattle.std.proofs.Common.{◌≡◌, ℕ, ◌+◌, ◌<◌, ◌≤◌, length, length-append, length-drop, Bool, true, false, List, [], ◌∷◌, ◌++◌, map, drop, drop-drop, min, Option, Some, None, refl, sym, ap, subst, ◌∙◌, arith, inl, inr, append_assoc, ◌⊎◌, ⊎_elim}
use Rattle.std.specs.Prelude.{Result, Ok, Err, IfOk, IfSome, String, string_bytes, codes}
use Rattle.std.specs.Option.{option_map}
use Rattle.std.specs.Global.{Global}
use Rattle.std.proofs.lemmas.Bool.{cases_lt}
use Rattle.std.proofs.lemmas.List.{drop-map, map-append, length-map}
use Rattle.dia_ccf.specs.declared.reading.Reader.{Reader}
use Rattle.dia_ccf.specs.declared.reading.refusal.Refusal.{Refusal}
use Rattle.dia_ccf.specs.declared.source.Qual.{Qual}
use Rattle.dia_terms.specs.declared.FormatName.{FormatName}
use Rattle.dia_terms.specs.declared.FormatName.TheVariants.{Enumerated}
use Rattle.dia_terms.specs.declared.MRule.{MRule}
use Rattle.dia_terms.specs.Formats.{format_word, is_enumerated}
use Rattle.dia_ccf.specs.Limits.{max_number, max_value}
use Rattle.dia_ccf.specs.Tokens.{Token, Number, Name, Placed, Less, Greater, Assign, Declares, Dots, Open_parenthesis, Close_parenthesis, tokens, placed_tokens}
use Rattle.dia_ccf.specs.LexerTokens.{capped, tokens_from, left_from}
use Rattle.dia_ccf.specs.Grammar.{Tokens, ◌then◌, one, name, number, qualifier, slot, word, vendor, range, each, values, declaration, rule_word}
use Rattle.dia_ccf.specs.Faults.{place_of}
use Rattle.dia_ccf.specs.declared.source.Rule.{Rule}
use Rattle.dia_ccf.specs.declared.source.Decl.{Decl}
use Rattle.dia_ccf.specs.declared.source.Source.{Source}
use Rattle.std.specs.List.{All, AllPairs}
use Rattle.std.proofs.lemmas.List.Elements.{All-push}
use Rattle.std.proofs.lemmas.List.Quantifiers.{all_pairs_push}
use Rattle.dia_terms.specs.declared.Pxy.{Pxy}
use Rattle.dia_terms.specs.declared.Pxy.TheVariants.{Clear}
use Rattle.dia_ccf.specs.declared.source.Head.{Head}
use Rattle.dia_ccf.specs.declared.source.Head.TheVariants.{Command, Error}
use Rattle.dia_terms.specs.declared.RuleKind.TheVariants.{Fixed}
use Rattle.dia_ccf.specs.declared.source.Def.{Def}
use Rattle.dia_ccf.specs.Plain.{PlainSource, PlainDef, plain_rule, plain_decl, plain_def, plain_source}
use Rattle.dia_ccf.specs.Grammar.{bracketed, rule, head}
use Rattle.dia_ccf.specs.declared.reading.definitions.Opening.{Opening}
use Rattle.dia_ccf.specs.Places.{Spans, RulesStand, DeclOccurs, IsPlaced, IsPlacedBefore, opened, heading}
use Rattle.dia_ccf.specs.Machine.{same_sign, sign_at, name_at, number_at, slot_at, format_at, rule_at, is_word, is_none, is_number, add_def, add_by_head}
use Rattle.dia_ccf.specs.ReaderFunctions.{left, still, Passes, Takes, Accepts, Derived, From, declaring, unread, Course}
use Rattle.dia_ccf.proofs.TokenTests.{same_sign-is, sign_at-is, name_at-is, number_at-is, slot_at-is, slot_tokens, Is_slot, word-is, format_at-is, rule_at-is}
use Rattle.dia_ccf.proofs.WhatFollows.{each-append, each-one}
use Rattle.dia_ccf.proofs.ReaderFindings.{place_is}
use Rattle.dia_ccf.proofs.RisingPlaces.{places_rise}

-- ---- one token

first_seen : (ps : List Placed) (t : Token) (rest : List Token) → map (λ placed. capped placed.token) ps ≡ t ∷ rest
    → (u : Token) × (map (λ p. p.token) ps ≡ u ∷ map (λ p. p.token) (drop 1 ps)) × (capped u ≡ t)
first_seen [] t rest h = absurd cc
first_seen (p ∷ ps) t rest h = (p.token, refl, cc)

one_seen : (text : List ℕ) (k at : ℕ) (t : Token) (rest : List Token) → drop k (placed_tokens text) ≡ tokens_from text at → left_from text at ≡ t ∷ rest
    → (u : Token) × (drop k (tokens text) ≡ u ∷ drop (k + 1) (tokens text)) × (capped u ≡ t)
one_seen text k at t rest counted seen =
    let ps = drop k (placed_tokens text) in
    let f = first_seen ps t rest (ap (map (λ placed. capped placed.token)) counted ∙ seen) in
    let here = drop-map (λ (p : Placed). p.token) k (placed_tokens text) in
    let there : drop (k + 1) (tokens text) ≡ map (λ p. p.token) (drop 1 ps) =
    drop-map (λ (p : Placed). p.token) (k + 1) (placed_tokens text) ∙ ap (map (λ (p : Placed). p.token)) (sym (drop-drop 1 k (placed_tokens text))) in
    (f.0, here ∙ f.1 ∙ ap (λ (us : List Token). f.0 ∷ us) (sym there), f.2)

-- the token that was passed, with its number
pub passed : (old new : Reader) (t : Token) → Passes old (t ∷ []) new → (u : Token) × (still old ≡ u ∷ still new) × (capped u ≡ t)
passed old new t (ahead, same, taken) =
    let o = one_seen old.text.now old.taken old.at t (left new) old.counted ahead in
    let e : drop (old.taken + 1) (tokens old.text.now) ≡ still new = ap (λ (n : ℕ). drop n (tokens old.text.now)) (sym taken) ∙ ap (λ (text : List ℕ). drop new.taken (tokens text)) same in
    (o.0, o.1 ∙ ap (λ (us : List Token). o.0 ∷ us) e, o.2)

is_uncapped : (u t : Token) → is_number t ≡ false → capped u ≡ t → u ≡ t
is_uncapped (Number n) t h e = absurd (let k : false ≡ true = sym h ∙ ap is_number (sym e) in cc)
is_uncapped u t h e = e

number_uncapped : (u : Token) (n : ℕ) → n ≤ max_number → capped u ≡ Number n → u ≡ Number n
number_uncapped (Number m) n small e = let f : min m 4294967296 ≡ n = cc in let g : m ≡ n = omega arith in ap Number g
number_uncapped u n small e = e

derived_one : (old new : Reader) (t : Token) → Passes old (t ∷ []) new → ((u : Token) → capped u ≡ t → u ≡ t) → Derived (one t) old new
derived_one old new t passes h =
    let p = passed old new t passes in
    (t ∷ [], p.1 ∙ ap (λ (u : Token). u ∷ still new) (h p.0 p.2), refl, passes.1)

pub derived_word : (old new : Reader) (t : Token) → is_number t ≡ false → Passes old (t ∷ []) new → Derived (one t) old new
derived_word old new t h passes = derived_one old new t passes (λ u. is_uncapped u t h)

pub takes_derived : (sign : Token) (old new : Reader) → is_number sign ≡ false → Takes (same_sign sign) old true new → Derived (one sign) old new
takes_derived sign old new h (t, e, passes) = derived_word old new sign h (subst (λ (u : Token). Passes old (u ∷ []) new) (sym (same_sign-is sign t e)) passes)

pub sign_derived : (sign : Token) (old new : Reader) → is_number sign ≡ false → (t : Token) × (sign_at sign t ≡ Some tt) × Passes old (t ∷ []) new → Derived (one sign) old new
sign_derived sign old new h (t, is, passes) = derived_word old new sign h (subst (λ (u : Token). Passes old (u ∷ []) new) (sign_at-is sign t tt is) passes)

pub name_derived : (old new : Reader) (x : String Global) → Accepts false true name_at (λ name. string_bytes name) old (Ok x) new → Derived (name (string_bytes x)) old new
name_derived old new x (t, is, passes) =
    let n = name_at-is t (string_bytes x) is in
    let d = derived_word old new (Name (string_bytes x)) refl (subst (λ (u : Token). Passes old (u ∷ []) new) n.0 passes) in
    (d.0, d.1, (n.1, d.2), d.3)

pub number_derived_to : (least most n : ℕ) (old new : Reader) (t : Token) → most ≤ max_number → number_at least most t ≡ Some n → Passes old (t ∷ []) new
    → (least ≤ n) × Derived (number most n) old new
number_derived_to least most n old new t small is passes =
    let k = number_at-is least most t n is in
    let d = derived_one old new (Number n) (subst (λ (u : Token). Passes old (u ∷ []) new) k.0 passes) (λ u. number_uncapped u n (omega (arith, k.2, small))) in
    (k.1, (d.0, d.1, (k.2, d.2), d.3))

pub number_derived : (old new : Reader) (n : ℕ) (t : Token) → number_at 0 max_number t ≡ Some n → Passes old (t ∷ []) new → Derived (number max_number n) old new
number_derived old new n t is passes = (number_derived_to 0 max_number n old new t (omega arith) is passes).1

-- ---- classes

pub along : (first second : Tokens) (old mid new : Reader) → Derived first old mid → Derived second mid new → Derived (first then second) old new
along first second old mid new (front, e, a, s) (back, f, b, t) =
    (front ++ back, e ∙ ap (λ (us : List Token). front ++ us) f ∙ sym (append_assoc front back (still new)), (front, back, refl, a, b), s ∙ t)

pub of_class : (first second : Tokens) (old new : Reader) → ((ts : List Token) → first ts → second ts) → Derived first old new → Derived second old new
of_class first second old new h (front, e, a, s) = (front, e, h front a, s)

-- nothing was passed
pub unmoved : (class : Tokens) (old new : Reader) → new ≡ old → class [] → Derived class old new
unmoved class old new same h = ([], sym (ap still same), h, sym (ap (λ (r : Reader). r.text.now) same))

pub slot_derived : (old new : Reader) (x : Option (String Global)) → (t : Token) × (slot_at t ≡ Some (option_map (λ text. string_bytes text) x)) × Passes old (t ∷ []) new
    → Derived (slot (option_map (λ text. string_bytes text) x)) old new
slot_derived old new x (t, is, passes) =
    let y = option_map (λ text. string_bytes text) x in
    let k = slot_at-is t y is in
    by_slot y k.0 k.1
  where
    by_slot : (y : Option (List ℕ)) → t ∷ [] ≡ slot_tokens y → Is_slot y → Derived (slot y) old new
    by_slot None e h = let f : t ≡ Name (codes "AVP") = cc in derived_word old new (Name (codes "AVP")) refl (subst (λ (u : Token). Passes old (u ∷ []) new) f passes)
    by_slot (Some text) e h =
        let f : t ≡ Name text = cc in
        let d = derived_word old new (Name text) refl (subst (λ (u : Token). Passes old (u ∷ []) new) f passes) in
        (d.0, d.1, (h, d.2), d.3)

-- ---- places

pub spans : (class : Tokens) (old new : Reader) → Derived class old new → Spans new.text.now old.taken class new.taken
spans class old new (front, e, h, same) = (front, ap (λ (text : List ℕ). drop old.taken (tokens text)) (sym same) ∙ e, h)

place_now : (old new : Reader) → old.text.now ≡ new.text.now → place_of new.text.now old.taken ≡ old.at
place_now old new same = ap (λ (text : List ℕ). place_of text old.taken) (sym same) ∙ sym (place_is old.text.now old.taken old.at old.counted old.reached old.placed)

pub from_place : (class : Tokens) (at : ℕ) (old new : Reader) → at ≡ old.at → Derived class old new → From at class new
from_place class at old new e h = (old.taken, spans class old new h, place_now old new h.3 ∙ sym e)

-- a reader that has passed more tokens is at a later place
pub goes_on : (old new : Reader) → old.text.now ≡ new.text.now → old.taken < new.taken → old.at < new.at
goes_on old new same less =
    let rise = places_rise new.text.now old.taken new.taken less new.reached in
    omega (arith, rise, place_now old new same, place_now new new refl)

pub never_back : (old new : Reader) → old.text.now ≡ new.text.now → old.taken ≤ new.taken → old.at ≤ new.at
never_back old new same most =
    ⊎_elim (λ (less : old.taken < new.taken). let on = goes_on old new same less in omega (arith, on))
    (λ (late : new.taken ≤ old.taken).
    (let equal : old.taken ≡ new.taken = omega (arith, most, late) in
    let e = sym (place_now old new same) ∙ ap (place_of new.text.now) equal ∙ place_now new new refl in
    omega (arith, e))) (cases_lt old.taken new.taken)

opened_long : (text : List ℕ) (front : List Token) → opened text front → 0 < length front
opened_long text front (inl (x, y, e, f, g)) = omega (arith, ap length e, ap length f, length-append x y)
opened_long text front (inr (h, e)) = omega (arith, ap length e)

-- what is passed from a place on has a token at least, so the token ahead follows the place
pub opened_before : (text : List ℕ) (at : ℕ) (reader : Reader) → From at (opened text) reader → at < reader.at
opened_before text at reader (k, (front, e, h), place) =
    let all = reader.text.now in
    let long = opened_long text front h in
    let lengths = sym (length-drop k (tokens all)) ∙ ap length e ∙ length-append front (still reader) in
    let most = length-map (placed_tokens all) (λ (p : Placed). p.token) in
    let less : k < reader.taken = omega (arith, long, lengths, most, reader.reached, length-drop reader.taken (tokens all)) in
    let rise = places_rise all k reader.taken less reader.reached in
    omega (arith, rise, place, place_now reader reader refl)

-- ---- the name of a definition

pub in_angles : (old mid new : Reader) (x : String Global) → Takes (same_sign Less) old true mid → Derived (name (string_bytes x) then one Greater) mid new
    → Derived (one Less then name (string_bytes x) then one Greater) old new
in_angles old mid new x took h = along (one Less) (name (string_bytes x) then one Greater) old mid new (takes_derived Less old mid refl took) h

pub angled : (old mid new : Reader) (x : String Global) → Takes (same_sign Less) old true mid → Derived (name (string_bytes x) then one Greater) mid new → Derived (opened (string_bytes x)) old new
angled old mid new x took h = of_class (one Less then name (string_bytes x) then one Greater) (opened (string_bytes x)) old new (λ ts k. inl k) (in_angles old mid new x took h)

pub angles_opened : (old mid new : Reader) (result : Result (String Global) Refusal) → Takes (same_sign Less) old true mid
    → IfOk result (λ x. Derived (name (string_bytes x) then one Greater) mid new) → IfOk result (λ x. Derived (opened (string_bytes x)) old new)
angles_opened old mid new (Ok x) took h = angled old mid new x took h
angles_opened old mid new (Err k) took h = tt

pub bare_opened : (old mid new : Reader) (result : Result (String Global) Refusal) → mid ≡ old → Accepts false true name_at (λ name. string_bytes name) mid result new
    → IfOk result (λ x. Derived (opened (string_bytes x)) old new)
bare_opened old mid new (Ok x) same h =
    subst (λ (r : Reader). Derived (opened (string_bytes x)) r new) same (of_class (name (string_bytes x)) (opened (string_bytes x)) mid new (λ ts k. inr k) (name_derived mid new x h))
bare_opened old mid new (Err k) same h = tt

-- ---- rules

-- a bracket, the name and the closing bracket
pub bracket_derived : (first_sign close : Token) (old mid last new : Reader) (x : Option (String Global)) → is_number close ≡ false → Derived (one first_sign) old mid
    → (t : Token) × (slot_at t ≡ Some (option_map (λ text. string_bytes text) x)) × Passes mid (t ∷ []) last
    → (t : Token) × (sign_at close t ≡ Some tt) × Passes last (t ∷ []) new → Derived (one first_sign then slot (option_map (λ text. string_bytes text) x) then one close) old new
bracket_derived first_sign close old mid last new x h first named closed =
    let name = slot (option_map (λ text. string_bytes text) x) in
    along (one first_sign) (name then one close) old mid new first (along name (one close) mid last new (slot_derived mid last x named) (sign_derived close last new h closed))

pub bare_fixed : (old mid new : Reader) (x : String Global) → Takes (same_sign Less) old true mid → Derived (name (string_bytes x) then one Greater) mid new
    → Derived (qualifier None then bracketed Fixed (Some (string_bytes x))) old new
bare_fixed old mid new x took h =
    along (qualifier None) (bracketed Fixed (Some (string_bytes x))) old old new (unmoved (qualifier None) old old refl refl) (in_angles old mid new x took h)

-- a sign, where nothing was passed before
pub started : (sign : Token) (old mid new : Reader) → mid ≡ old → is_number sign ≡ false → (t : Token) × (sign_at sign t ≡ Some tt) × Passes mid (t ∷ []) new → Derived (one sign) old new
started sign old mid new same h read = subst (λ (r : Reader). Derived (one sign) r new) same (sign_derived sign mid new h read)

-- ---- texts

pub same_text : {p q : Course} → p ≡ q → p.0 ≡ q.0
same_text e = ap (λ (c : Course). c.0) e

-- some head
abbrev pub no_head : Head
no_head = Error Clear

pub all_pushed : {X : Type 0} (P : X → Type 0) (xs more : List X) (x : X) → more ≡ xs ++ x ∷ [] → All P xs → P x → All P more
all_pushed P xs more x grown all one = subst (All P) (sym grown) (All-push P xs x all one)

pub placed_still : (text now : List ℕ) (source : Source) → text ≡ now → IsPlaced text source → IsPlaced now source
placed_still text now source same h = subst (λ (t : List ℕ). IsPlaced t source) same h

pub before_still : (text now : List ℕ) (n m : ℕ) (source : Source) → text ≡ now → n ≡ m → IsPlacedBefore text n source → IsPlacedBefore now m source
before_still text now n m source same e h = subst (λ (k : ℕ). IsPlacedBefore now k source) e (subst (λ (t : List ℕ). IsPlacedBefore t n source) same h)

-- one more part, whose place is greater
pub further : {X : Type 0} (place : X → ℕ) (n m : ℕ) (xs : List X) → n < m → All (λ x. place x < n) xs → All (λ x. place x < m) xs
further place n m xs less all = λ k d within. let before = all k d within in omega (arith, less, before)

pub rise_pushed : {X : Type 0} (place : X → ℕ) (xs more : List X) (x : X) → more ≡ xs ++ x ∷ [] → AllPairs (λ a b. place a < place b) xs → All (λ a. place a < place x) xs
    → AllPairs (λ a b. place a < place b) more
rise_pushed place xs more x grown rise all =
    subst (AllPairs (λ a b. place a < place b)) (sym grown) (all_pairs_push (λ a b. place a < place b) xs x rise (λ k d within. all k d within))

-- ---- declarations

-- the vendor, and what is read of its number
pub vendor_derived : (result : Result ℕ Refusal) (old mid new : Reader) → Takes (is_word (codes "vendor")) old true mid → Accepts true false (number_at 0 max_number) (λ n. n) mid result new
    → IfOk result (λ n. Derived (vendor n) old new)
vendor_derived (Err k) old mid new took h = tt
vendor_derived (Ok n) old mid new (t, e, passes) (u, is, more) =
    let text = codes "vendor" in
    let first = derived_word old mid (Name text) refl (subst (λ (x : Token). Passes old (x ∷ []) mid) (word-is text t e) passes) in
    of_class (word text then number max_number n) (vendor n) old new (λ ts k. inr k) (along (word text) (number max_number n) old mid new first (number_derived mid new n u is more))

pub format_derived : (old new : Reader) (f : FormatName) → (t : Token) × (format_at t ≡ Some f) × Passes old (t ∷ []) new → Derived (word (format_word f)) old new
format_derived old new f (t, is, passes) = derived_word old new (Name (format_word f)) refl (subst (λ (u : Token). Passes old (u ∷ []) new) (format_at-is t f is) passes)

pub m_rule_derived : (old new : Reader) (r : MRule) → (t : Token) × (rule_at t ≡ Some r) × Passes old (t ∷ []) new → Derived (word (rule_word r)) old new
m_rule_derived old new r (t, is, passes) = derived_word old new (Name (rule_word r)) refl (subst (λ (u : Token). Passes old (u ∷ []) new) (rule_at-is t r is) passes)

value_small : max_value ≤ max_number
value_small = omega arith

pub value_derived : (old new : Reader) (n : ℕ) → (t : Token) × (number_at 0 max_value t ≡ Some n) × Passes old (t ∷ []) new → Derived (number max_value n) old new
value_derived old new n (t, is, passes) = (number_derived_to 0 max_value n old new t value_small is passes).1

pub range_derived : (low high : ℕ) (old mid dots new : Reader) → (t : Token) × (number_at 0 max_value t ≡ Some low) × Passes old (t ∷ []) mid → Takes (same_sign Dots) mid true dots
    → (t : Token) × (number_at low max_value t ≡ Some high) × Passes dots (t ∷ []) new → Derived (range (low, high)) old new
range_derived low high old mid dots new first took (t, is, passes) =
    let last = number_derived_to low max_value high dots new t value_small is passes in
    let low_class = number max_value low in
    let high_class = number max_value high in
    of_class (low_class then one Dots then high_class) (range (low, high)) old new (λ ts k. (last.0, inr k))
    (along low_class (one Dots then high_class) old mid new (value_derived old mid low first) (along (one Dots) high_class mid dots new (takes_derived Dots mid dots refl took) last.1))

pub value_alone : (low : ℕ) (old mid new : Reader) → (t : Token) × (number_at 0 max_value t ≡ Some low) × Passes old (t ∷ []) mid → new ≡ mid → Derived (range (low, low)) old new
value_alone low old mid new first same =
    subst (λ (r : Reader). Derived (range (low, low)) old r) (sym same) (of_class (number max_value low) (range (low, low)) old mid (λ ts k. (omega arith, inl (refl, k))) (value_derived old mid low first))

-- one more range
pub ranges_derived : (ranges more : List (ℕ × ℕ)) (r : ℕ × ℕ) (old mid new : Reader) → more ≡ ranges ++ r ∷ [] → Derived (each range ranges) old mid → Derived (range r) mid new
    → Derived (each range more) old new
ranges_derived ranges more r old mid new grown first second =
    subst (λ (rs : List (ℕ × ℕ)). Derived (each range rs) old new) (sym grown)
    (of_class (each range ranges then range r) (each range (ranges ++ r ∷ [])) old new
    (λ ts (front, rest, e, a, b). subst (each range (ranges ++ r ∷ [])) (sym e) (each-append range ranges (r ∷ []) front rest a (each-one range r rest b)))
    (along (each range ranges) (range r) old mid new first second))

enumerated : (f : FormatName) → is_enumerated f ≡ true → f ≡ Enumerated
enumerated Enumerated h = refl
enumerated f h = absurd cc

pub values_derived : (f : FormatName) (ranges : List (ℕ × ℕ)) (old mid new : Reader) → is_enumerated f ≡ true → is_none ranges ≡ false → Takes (same_sign Open_parenthesis) old true mid
    → Derived (each range ranges then one Close_parenthesis) mid new → Derived (values f (Some ranges)) old new
values_derived f [] old mid new h some took all = absurd cc
values_derived f (r ∷ rs) old mid new h some took all =
    subst (λ (g : FormatName). Derived (values g (Some (r ∷ rs))) old new) (sym (enumerated f h))
    (along (one Open_parenthesis) (each range (r ∷ rs) then one Close_parenthesis) old mid new (takes_derived Open_parenthesis old mid refl took) all)

pub decl_occurs : (d : Decl) (old mid new : Reader) → d.at ≡ old.at → Takes (same_sign Declares) old true mid → Derived (declaring (plain_decl d)) mid new → DeclOccurs new.text.now d
decl_occurs d old mid new e took h =
    let f = from_place (declaration (plain_decl d)) d.at old new e (along (one Declares) (declaring (plain_decl d)) old mid new (takes_derived Declares old mid refl took) h) in
    (f.0, new.taken, f.1, f.2)

-- the name of a definition, where nothing was passed before
pub began : (old mid new : Reader) (x : String Global) → mid ≡ old → Derived (opened (string_bytes x)) mid new → From old.at (opened (string_bytes x)) new
began old mid new x same h = from_place (opened (string_bytes x)) old.at old new refl (subst (λ (r : Reader). Derived (opened (string_bytes x)) r new) same h)

-- a definition that is recorded as a command
pub command_kept : (source : Source) (def : Def) (more : List Def)
    → ((code : ℕ) × (request : Bool) × (pxy : Bool) × (app : Option ℕ) × (def.head ≡ Command code request pxy app)) ⊎ ((pxy : Pxy) × (def.head ≡ Error pxy)) → more ≡ source.commands.items ++ def ∷ []
    → ◌≡◌ {A = PlainSource} (record { avps = map plain_decl source.avps.items; groups = map plain_def source.groups.items; commands = map plain_def more }) (add_def (plain_source source) (plain_def def))
command_kept source def more is grown =
    let done = plain_source source in
    let d = plain_def def in
    ap (λ (ds : List PlainDef). record done { commands = ds }) (ap (map plain_def) grown ∙ map-append plain_def source.commands.items (def ∷ []))
    ∙ ⊎_elim (λ (code, request, pxy, app, e). sym (ap (add_by_head done d) e)) (λ (pxy, e). sym (ap (add_by_head done d) e)) is

-- ---- whole rules and definitions

pub begins_there : (result : Result Rule Refusal) (at : ℕ) (qual : Option Qual) → IfOk result (λ r. (r.at ≡ at) × (r.qual ≡ qual)) → IfOk result (λ r. r.at ≡ at)
begins_there (Ok r) at qual h = h.0
begins_there (Err k) at qual h = tt

pub loose_derived : (result : Result Rule Refusal) (at : ℕ) (qual : Option Qual) (old mid new : Reader) → Derived (qualifier qual) old mid
    → IfOk result (λ r. (r.at ≡ at) × (r.qual ≡ qual)) → IfOk result (λ r. Derived (bracketed r.kind (plain_rule r).name) mid new) → IfOk result (λ r. Derived (rule (plain_rule r)) old new)
loose_derived (Ok r) at qual old mid new first h second =
    along (qualifier r.qual) (bracketed r.kind (plain_rule r).name) old mid new (subst (λ (q : Option Qual). Derived (qualifier q) old mid) (sym h.1) first) second
loose_derived (Err k) at qual old mid new first h second = tt

rules_push : (text : List ℕ) (k : ℕ) (rules : List Rule) (r : Rule) (m next : ℕ) → RulesStand text k rules m → Spans text m (rule (plain_rule r)) next → place_of text m ≡ r.at
    → RulesStand text k (rules ++ r ∷ []) next
rules_push text k [] r m next e s place = (next, subst (λ (n : ℕ). Spans text n (rule (plain_rule r)) next) (sym e) s, ap (place_of text) e ∙ place, refl)
rules_push text k (x ∷ rules) r m next (n, s, place, more) t last = (n, s, place, rules_push text n rules r m next more t last)

-- one more rule
pub rules_more : (rules more : List Rule) (r : Rule) (k : ℕ) (old new : Reader) → more ≡ rules ++ r ∷ [] → RulesStand old.text.now k rules old.taken → Derived (rule (plain_rule r)) old new → r.at ≡ old.at
    → RulesStand new.text.now k more new.taken
rules_more rules more r k old new grown all h at =
    subst (λ (rs : List Rule). RulesStand new.text.now k rs new.taken) (sym grown)
    (rules_push new.text.now k rules r old.taken new.taken (subst (λ (text : List ℕ). RulesStand text k rules old.taken) h.3 all) (spans (rule (plain_rule r)) old new h) (place_now old new h.3 ∙ sym at))

pub rules_still : (text now : List ℕ) (k m : ℕ) (rules : List Rule) → text ≡ now → RulesStand text k rules m → RulesStand now k rules m
rules_still text now k m rules same all = subst (λ (t : List ℕ). RulesStand t k rules m) same all

pub def_occurs : (text : List ℕ) (at : ℕ) (name : List ℕ) (h : Head) (rules : List Rule) (end : ℕ) (old mid : Reader) → From at (opened name) old
    → Derived (one Assign then one Less then head h then one Greater) old mid → mid.text.now ≡ text → RulesStand text mid.taken rules end
    → (k : ℕ) × (m : ℕ) × (end : ℕ) × Spans text k (heading (record { name = name; head = h; rules = map plain_rule rules })) m × (place_of text k ≡ at) × RulesStand text m rules end
def_occurs text at name h rules end old mid (k, (front, e, a), place) (back, f, b, t) same stand =
    let d : PlainDef = record { name = name; head = h; rules = map plain_rule rules } in
    let up_to = f ∙ ap (λ (u : List ℕ). back ++ drop mid.taken (tokens u)) (sym t) in
    let all = e ∙ ap (λ (us : List Token). front ++ us) up_to ∙ sym (append_assoc front back (drop mid.taken (tokens old.text.now))) in (
      k,
      mid.taken,
      end,
      subst (λ (u : List ℕ). Spans u k (heading d) mid.taken) (t ∙ same) (front ++ back, all, (front, back, refl, a, b)),
      ap (λ (u : List ℕ). place_of u k) (sym (t ∙ same)) ∙ place,
      stand,
    )

-- what follows a definition begins after its name
pub definition_before : (at : ℕ) (name : List ℕ) (next : Option Opening) (old mid new : Reader) → From at (opened name) old → old.text.now ≡ mid.text.now → old.taken ≤ mid.taken
    → mid.text.now ≡ new.text.now → mid.taken ≤ new.taken → IfSome next (λ o. mid.at ≤ o.at) → at < unread next new
definition_before at name None old mid new begun same first still second later =
    omega (arith, opened_before name at old begun, never_back old mid same first, never_back mid new still second)
definition_before at name (Some o) old mid new begun same first still second later =
    omega (arith, opened_before name at old begun, never_back old mid same first, later)
