-- By the dictionary itself an answer is valid exactly where its Failed-AVP fits: all of the message.
use Rattle.std.proofs.Common.{◌≡◌, ℕ, zero, suc, ◌+◌, ◌≤◌, Bool, true, false, cond, List, [], ◌∷◌, length, Option, Some, None, inl, inr, refl, sym, ap, subst, ◌∙◌, arith}
use Rattle.std.specs.Prelude.{◌⊎◌, ◌↔◌, filter, slice_get, MatchOption}
use Rattle.std.specs.List.{AllByRecursion}
use Rattle.std.specs.Option.{option_map}
use Rattle.std.proofs.lemmas.Option.{none-some, same_Some}
use Rattle.dia_wire.specs.Wire.{PlainAvp, key_of}
use Rattle.dia_data.specs.Leaf.{IsLeaf}
use Rattle.dia_book.specs.declared.Class.{Class}
use Rattle.dia_book.specs.declared.DRule.{DRule}
use Rattle.dia_book.specs.Keys.{same_key}
use Rattle.dia_book.specs.Dictionary.{Dictionary, DictEntry, PlainDefinition, IsDictionary, groups}
use Rattle.dia_book.proofs.Members.{into_right}
use Rattle.dia_terms.specs.declared.Unknown.{Unknown}
use Rattle.dia_terms.specs.declared.Levels.{Levels}
use Rattle.dia_terms.specs.declared.Levels.TheVariants as levels
use Rattle.dia_valid.specs.Valid.{known, AllFit, Fits, IsAccepted, IsLevel, IsValid, IsValidOf, MHolds, class_of}
use Rattle.dia_valid.proofs.Members.{IsIn, in_all, all_map}
use Rattle.dia_valid.proofs.SelectedCommands.{choose, Choice, NoChoice, command_at}
use Rattle.dia_answer.specs.declared.forms.Made.{Made}
use Rattle.dia_answer.specs.Dictionaries.{failed_avp, grouped_failed, opaque, opaque_at}
use Rattle.dia_answer.specs.Bodies.{in_order, of_key}
use Rattle.dia_answer.specs.Sources.{in_extent}
use Rattle.dia_answer.specs.Reports.{HasBody, IsValidBy, answer_header, form_dictionary}
use Rattle.dia_answer.specs.Strict.{AreNoGroups, HasFittingFailed, IsNoGroup}
use Rattle.dia_answer.proofs.Messages.{one_message}
use Rattle.dia_answer.proofs.OctetsLookups.{groups_here, low, select_here}
use Rattle.dia_answer.proofs.Strict.{IsEasy, all_filter, all_in_order, leaf_fits, stock_easy}

-- ---- AVPs one by one

data_more : (P Q : List DRule → List ℕ → Type 0) (bytes : List ℕ) (X : Type 0) (o : Option PlainDefinition) → ((rules : List DRule) → P rules bytes → Q rules bytes)
    → MatchOption o X (λ group. P group.rules bytes) → MatchOption o X (λ group. Q group.rules bytes)
data_more P Q bytes X None f h = h
data_more P Q bytes X (Some group) f h = f group.rules h

said_more : (u : Unknown) (P Q : List DRule → List ℕ → Type 0) (v : PlainAvp) (o : Option DictEntry) → ((rules : List DRule) → P rules v.bytes → Q rules v.bytes)
    → MatchOption o (IsAccepted u v.flags) (λ e. MHolds e.rule v.flags × MatchOption e.group (IsLeaf e.format v.bytes) (λ group. P group.rules v.bytes))
    → MatchOption o (IsAccepted u v.flags) (λ e. MHolds e.rule v.flags × MatchOption e.group (IsLeaf e.format v.bytes) (λ group. Q group.rules v.bytes))
said_more u P Q v None f h = h
said_more u P Q v (Some e) f h = (h.0, data_more P Q v.bytes (IsLeaf e.format v.bytes) e.group f h.1)

module _ (d : Dictionary) (u : Unknown) where
  -- what fits with some levels of groups fits with more
  fits_more : (n m : ℕ) (v : PlainAvp) → n ≤ m → Fits d u n v → Fits d u m v
  fits_more zero zero v le h = h
  fits_more zero (suc m) v le h = said_more u (λ rules bytes. ⊥) (IsLevel (Fits d u m)) v (known d (key_of v)) (λ rules bad. absurd bad) h
  fits_more (suc n) zero v le h = absurd (omega (arith, le))
  fits_more (suc n) (suc m) v le h = said_more u (IsLevel (Fits d u n)) (IsLevel (Fits d u m)) v (known d (key_of v))
      (λ rules lv. (lv.0, lv.1, lv.2, all_map (Fits d u n) (Fits d u m) (λ w k. fits_more n m w (omega (arith, le)) k) lv.0 lv.3)) h

  pub joined : (most : Levels) (avps : List PlainAvp) → ((v : PlainAvp) → IsIn v avps → AllFit d u most (v ∷ [])) → AllFit d u most avps
  joined levels.Any [] h = (0, tt)
  joined levels.Any (v ∷ avps) h =
      let x = h v (inl refl) in
      let r = joined levels.Any avps (λ w i. h w (inr i)) in
      (x.0 + r.0, (fits_more x.0 (x.0 + r.0) v (omega arith) x.1.0, all_map (Fits d u r.0) (Fits d u (x.0 + r.0)) (λ w k. fits_more r.0 (x.0 + r.0) w (omega arith) k) avps r.1))
  joined (levels.AtMost n) [] h = tt
  joined (levels.AtMost n) (v ∷ avps) h = ((h v (inl refl)).0, joined (levels.AtMost n) avps (λ w i. h w (inr i)))

  alone : (most : Levels) (avps : List PlainAvp) (v : PlainAvp) → AllFit d u most avps → IsIn v avps → AllFit d u most (v ∷ [])
  alone levels.Any avps v (n, all) i = (n, (in_all (Fits d u n) v avps all i, tt))
  alone (levels.AtMost n) avps v all i = (in_all (Fits d u n) v avps all i, tt)

  filtered : (most : Levels) (p : PlainAvp → Bool) (avps : List PlainAvp) → AllFit d u most avps → AllFit d u most (filter p avps)
  filtered levels.Any p avps (n, all) = (n, all_filter (Fits d u n) p avps all)
  filtered (levels.AtMost n) p avps all = all_filter (Fits d u n) p avps all

into_filter : (p : PlainAvp → Bool) (avps : List PlainAvp) (v : PlainAvp) → IsIn v avps → p v ≡ true → IsIn v (filter p avps)
into_filter p [] v i is = absurd i
into_filter p (w ∷ avps) v i is = by (p w) refl i (λ later. into_filter p avps v later is)
  where
    by : (b : Bool) → p w ≡ b → (v ≡ w) ⊎ IsIn v avps → (IsIn v avps → IsIn v (filter p avps)) → IsIn v (cond b (w ∷ filter p avps) (filter p avps))
    by true e (inl same) next = inl same
    by true e (inr later) next = inr (next later)
    by false e (inl same) next = absurd (let bad : false ≡ true = sym e ∙ ap p (sym same) ∙ is in cc)
    by false e (inr later) next = next later

-- an AVP that fits by octets fits by the dictionary
one_leaf : (d : Dictionary) (u : Unknown) (most : Levels) (v : PlainAvp) → same_key failed_avp (key_of v) ≡ false → IsNoGroup d (key_of v) → AllFit (opaque d) u most (v ∷ []) → AllFit d u most (v ∷ [])
one_leaf d u levels.Any v other none (n, (fits, end)) = (n, (leaf_fits d u n v other none fits, tt))
one_leaf d u (levels.AtMost n) v other none (fits, end) = (leaf_fits d u n v other none fits, tt)

all_fit : (d : Dictionary) (u : Unknown) (most : Levels) (avps : List PlainAvp) → AllByRecursion (IsEasy d u most) avps → AllFit (opaque d) u most avps → AllFit d u most (of_key failed_avp avps) → AllFit d u most avps
all_fit d u most avps easy by_octets failed = joined d u most avps each
  where
    failed_fits : (v : PlainAvp) → IsIn v avps → same_key failed_avp (key_of v) ≡ true → AllFit d u most (v ∷ [])
    failed_fits v i is = alone d u most (of_key failed_avp avps) v failed (into_filter (λ w. same_key failed_avp (key_of w)) avps v i is)

    other_fits : (v : PlainAvp) → IsIn v avps → same_key failed_avp (key_of v) ≡ false → IsEasy d u most v → AllFit d u most (v ∷ [])
    other_fits v i other (inl is) = failed_fits v i is
    other_fits v i other (inr (inl none)) = one_leaf d u most v other none (alone (opaque d) u most avps v by_octets i)
    other_fits v i other (inr (inr fits)) = fits

    each : (v : PlainAvp) → IsIn v avps → AllFit d u most (v ∷ [])
    each v i = by (same_key failed_avp (key_of v)) refl
      where
        by : (b : Bool) → same_key failed_avp (key_of v) ≡ b → AllFit d u most (v ∷ [])
        by true e = failed_fits v i e
        by false e = other_fits v i e (in_all (IsEasy d u most) v avps easy i)

-- ---- the command

pub commands_same : (d : Dictionary) (o : Option (ℕ × ℕ)) → (opaque_at d o).commands ≡ d.commands
commands_same d None = refl
commands_same d (Some place) = refl

valid_back : (d : Dictionary) (u : Unknown) (most : Levels) (bytes : List ℕ) (n : ℕ) (v : IsValidOf (opaque d) u most bytes n) → AllFit d u most v.avps → IsValid d u most bytes
valid_back d u most bytes n v fit = by (choose d v.header.code (class_of v.header.flags) v.header.app)
  where
    code : ℕ
    code = v.header.code

    class : Class
    class = class_of v.header.flags

    app : ℕ
    app = v.header.app

    by : Choice d code class app ⊎ NoChoice d code class app → IsValid d u most bytes
    by (inl c) =
        let number : Some (low (grouped_failed d) (length (groups d) + c.place)) ≡ Some n =
        ap (option_map (low (grouped_failed d))) (sym c.is_selected) ∙ select_here d (grouped_failed d) refl code class app ∙ v.select in
        let place : n ≡ length (groups (opaque d)) + c.place = sym (same_Some (low (grouped_failed d) (length (groups d) + c.place)) n number) ∙ groups_here d (grouped_failed d) refl c.place in
        let at = command_at (opaque d) c.place n v.command place v.is_command in (
          length (groups d) + c.place,
          record {
            header = v.header;
            avps = v.avps;
            command = v.command;
            message = v.message;
            no_error_request = v.no_error_request;
            no_repeated_answer = v.no_repeated_answer;
            select = c.is_selected;
            is_command = into_right (groups d) d.commands c.place v.command (ap (λ (xs : List PlainDefinition). slice_get xs c.place) (sym (commands_same d (grouped_failed d))) ∙ at);
            proxiable = v.proxiable;
            placed = v.placed;
            fit = fit;
          },
        )
    by (inr none) = absurd (none-some n (ap (option_map (low (grouped_failed d))) (sym none.is_none) ∙ select_here d (grouped_failed d) refl code class app ∙ v.select))

-- ---- all

pub strict : (d : Dictionary) (u : Unknown) (most : Levels) (host realm request : List ℕ) (made : Made) → IsDictionary (form_dictionary made.form d) → AreNoGroups (form_dictionary made.form d)
    → HasBody d u most host realm request made → IsValidBy d u most made.form made.bytes.items
    → IsValid (form_dictionary made.form d) u most made.bytes.items ↔ HasFittingFailed (form_dictionary made.form d) u most made.bytes.items
strict d u most host realm request made is none body by_octets = (fitting, valid)
  where
    own_book : Dictionary
    own_book = form_dictionary made.form d

    bytes : List ℕ
    bytes = made.bytes.items

    fitting : IsValid own_book u most bytes → HasFittingFailed own_book u most bytes
    fitting (c, v) h avps message =
        let same = one_message v.header h v.avps avps bytes v.message message in
        filtered own_book u most (λ w. same_key failed_avp (key_of w)) avps (subst (AllFit own_book u most) same.1 v.fit)

    valid : HasFittingFailed own_book u most bytes → IsValid own_book u most bytes
    valid failed =
        let v = by_octets.1 in
        let head = answer_header body.header made.form in
        let avps = in_order body.command.rules body.avps in
        let same = one_message v.header head v.avps avps bytes v.message body.message.message in
        let p = in_extent body.extent body.parts in
        let stock = stock_easy own_book made.form body.command.rules p body.avps is none body.are_avps in
        let easy : AllByRecursion (IsEasy own_book u most) body.avps =
        subst (λ (n : Levels). AllByRecursion (IsEasy own_book u n) body.avps) body.are_parts.levels (subst (λ (k : Unknown). AllByRecursion (IsEasy own_book k p.levels) body.avps) body.are_parts.unknown stock) in
        let in_turn = all_in_order (IsEasy own_book u most) body.command.rules body.avps easy in
        valid_back own_book u most bytes by_octets.0 v
        (all_fit own_book u most v.avps (subst (AllByRecursion (IsEasy own_book u most)) (sym same.1) in_turn) v.fit (failed v.header v.avps v.message))
