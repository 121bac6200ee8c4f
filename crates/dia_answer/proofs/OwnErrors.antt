-- The base dictionary's error message comes only where the dictionary's own has no room.
use Rattle.std.proofs.Common.{◌≡◌, ◌≢◌, ℕ, zero, suc, ◌+◌, ◌/◌, ◌<◌, ◌^◌, Bool, true, false, cond, List, [], ◌∷◌, ◌++◌, length, map, Option, Some, None, inl, inr, refl, sym, ap, subst, ◌∙◌, arith}
use Rattle.std.specs.Prelude.{◌⊎◌, ◌==◌, ◌&&◌, bit_and, bit_or, find, slice_get, unwrap_or, IsTrue, MatchOption}
use Rattle.std.specs.List.{AllByRecursion}
use Rattle.std.specs.Option.{option_map}
use Rattle.std.specs.Str.{IsUtf8}
use Rattle.std.specs.Int.Bits.{and_zero_r}
use Rattle.std.proofs.lemmas.Bool.{and_parts}
use Rattle.std.proofs.lemmas.Nat.{and_assoc, and_or_apart, and_or_self}
use Rattle.std.proofs.lemmas.Option.{none-some, same_Some}
use Rattle.dia_wire.specs.declared.Header.{Header}
use Rattle.dia_wire.specs.declared.Key.{Key}
use Rattle.dia_wire.specs.Wire.{PlainAvp, key_of, Agrees, IsHead, IsMessage, IsTooLong, MessageWithZeros, SpellsAll}
use Rattle.dia_data.specs.Plain.{DiameterIdentity, FourBytes, Grouped, Unsigned32}
use Rattle.dia_book.specs.declared.Class.{Class}
use Rattle.dia_book.specs.declared.Class.TheVariants as classes
use Rattle.dia_book.specs.declared.DRule.{DRule}
use Rattle.dia_book.specs.declared.DefHead.{DefHead}
use Rattle.dia_book.specs.declared.DefHead.TheVariants.{Error}
use Rattle.dia_book.specs.declared.Pxy.TheVariants.{Either}
use Rattle.dia_book.specs.Keys.{same_key}
use Rattle.dia_book.specs.Dictionary.{Dictionary, AreRules, IsDictionary, IsSameSelector, PlainDefinition, groups, is_command, selected}
use Rattle.dia_book.proofs.Members.{into_right}
use Rattle.dia_book.proofs.SameKeys.{same_key-true}
use Rattle.dia_terms.specs.declared.Unknown.{Unknown}
use Rattle.dia_terms.specs.declared.Levels.{Levels}
use Rattle.dia_valid.specs.Valid.{AllowsP, IsValid, Placed, class_of}
use Rattle.dia_valid.proofs.Members.{IsIn, all_append, in_all, in_at}
use Rattle.dia_valid.proofs.SelectedCommands.{Choice, NoChoice, Reads, choose, command_rules, is_of_errors, reads}
use Rattle.dia_check.specs.declared.Reason.{Reason}
use Rattle.dia_check.specs.declared.Reason.TheVariants as reason
use Rattle.dia_answer.specs.declared.contents.Extent.{Extent}
use Rattle.dia_answer.specs.declared.contents.Extent.TheVariants as extent
use Rattle.dia_answer.specs.declared.forms.Form.{Form}
use Rattle.dia_answer.specs.declared.forms.Form.TheVariants as form
use Rattle.dia_answer.specs.declared.forms.Made.{Made}
use Rattle.dia_answer.specs.Contents.{full}
use Rattle.dia_answer.specs.Dictionaries.{failed_avp, grouped_failed, opaque}
use Rattle.dia_answer.specs.Names.{IsName}
use Rattle.dia_answer.specs.Requests.{AreBytes, AreFront, AreRequestAvps}
use Rattle.dia_answer.specs.Stocks.{IsFitOf, TakesData, copied, copied_by, error_message, has_format, is_nest, is_text, may_hold, own}
use Rattle.dia_answer.specs.Bodies.{AreThose, IsSession, IsStock, Parts, error_messages, failed_avps, in_order, may_fail, proxy_info, session_id}
use Rattle.dia_answer.specs.Sources.{in_extent}
use Rattle.dia_answer.specs.Reports.{HasFirstForm, HasNoneBy, IsByFirst, IsOfForm, answer_header, attempts_for, attempts_in}
use Rattle.dia_answer.specs.OwnErrors.{CanBeWritten, HasErrorsOfBase, HoldsBytes, error_rules}
use Rattle.dia_answer.proofs.ErrorFits.{FitsAlone, failed_fits, message_fits, own_fits, proxies_fit, session_fits}
use Rattle.dia_answer.proofs.ErrorLevels.{error_placed}
use Rattle.dia_answer.proofs.Flags.{cleared, made_flags}
use Rattle.dia_answer.proofs.OctetsLookups.{groups_here, low, select_here}
use Rattle.dia_answer.proofs.SpelledAnswers.{IsPlain, written}
use Rattle.dia_answer.proofs.Writings.{bytes_cases}
use Rattle.dia_dict.specs.Base.{base}
use Rattle.dia_answer.proofs.Strict.{all_in_order, all_those}
use Rattle.dia_answer.proofs.StrictAnswers.{commands_same, joined}

-- ---- the header

-- ANDs with a bit other than P leave nothing of the request's flags
other_bit : (flags n : ℕ) → bit_and 64 n ≡ 0 → bit_and (bit_and flags 64) n ≡ 0
other_bit flags n none = and_assoc n flags 64 ∙ ap (bit_and flags) none ∙ and_zero_r flags

no_request : (flags : ℕ) → bit_and (bit_or (bit_and flags 64) 32) 128 ≡ 0
no_request flags = and_or_apart 128 (bit_and flags 64) 32 refl ∙ other_bit flags 128 refl

not_repeated : (flags : ℕ) → bit_and (bit_or (bit_and flags 64) 32) 16 ≡ 0
not_repeated flags = and_or_apart 16 (bit_and flags 64) 32 refl ∙ other_bit flags 16 refl

is_error : (flags : ℕ) → class_of (bit_or (bit_and flags 64) 32) ≡ classes.Error
is_error flags =
    (λ i. cond (no_request flags i == 0) (cond (bit_and (bit_or (bit_and flags 64) 32) 32 == 0) classes.Answer classes.Error) classes.Request)
    ∙ (λ i. cond (and_or_self 32 (bit_and flags 64) i == 0) classes.Answer classes.Error)

-- ---- the AVPs can be written

own_plain : (d : Dictionary) (code : ℕ) (bytes : List ℕ) → code < 2 ^ 32 → IsPlain (own d code bytes)
own_plain d code bytes small = (made_flags d (record { code = code; vendor = 0 }) (own d code bytes).flags refl, refl, small)

copied_plain : (v : PlainAvp) → Agrees v → IsTrue (same_key proxy_info (key_of v)) → IsPlain (copied v)
copied_plain v agrees same = by v.vendor refl
  where
    is : proxy_info ≡ key_of v
    is = same_key-true proxy_info (key_of v) same

    code : v.code ≡ 284
    code = ap (λ (k : Key). k.code) (sym is)

    by : (o : Option ℕ) → v.vendor ≡ o → IsPlain (copied_by o v)
    by None none = (agrees, none, omega (arith, code))
    by (Some zero) none = (cleared v.flags, refl, omega (arith, code))
    by (Some (suc n)) some = absurd (let bad : 0 ≡ suc n = ap (λ (k : Key). k.vendor) is ∙ ap (λ (o : Option ℕ). unwrap_or o 0) some in omega (arith, bad))

spelled_agree : (avps : List PlainAvp) (b : List ℕ) → SpellsAll avps b → AllByRecursion Agrees avps
spelled_agree [] b h = tt
spelled_agree (v ∷ avps) b (front, rest, s, parts, all) = (s.agrees, spelled_agree avps rest all)

front_agrees : (avps : List PlainAvp) (level : List ℕ) → AreFront avps level → AllByRecursion Agrees avps
front_agrees avps level f = spelled_agree avps f.front f.spelled

none_agree : (avps : List PlainAvp) → avps ≡ [] → AllByRecursion Agrees avps
none_agree avps none = subst (AllByRecursion Agrees) (sym none) tt

request_agrees : (r : Reason) (avps : List PlainAvp) (bytes : List ℕ) → AreRequestAvps r avps bytes → AllByRecursion Agrees avps
request_agrees reason.Version avps bytes h = none_agree avps h
request_agrees reason.Length avps bytes h = none_agree avps h
request_agrees reason.Bits avps bytes h = front_agrees avps _ h
request_agrees reason.Command avps bytes h = front_agrees avps _ h
request_agrees reason.Application avps bytes h = front_agrees avps _ h
request_agrees reason.Proxiable avps bytes h = front_agrees avps _ h
request_agrees reason.AvpLength avps bytes h = front_agrees avps _ h
request_agrees reason.Unknown avps bytes h = front_agrees avps _ h
request_agrees reason.MBit avps bytes h = front_agrees avps _ h
request_agrees reason.Missing avps bytes h = front_agrees avps _ h
request_agrees reason.NotAllowed avps bytes h = front_agrees avps _ h
request_agrees reason.TooMany avps bytes h = front_agrees avps _ h
request_agrees reason.LeafLength avps bytes h = front_agrees avps _ h
request_agrees reason.LeafValue avps bytes h = front_agrees avps _ h
request_agrees reason.Depth avps bytes h = front_agrees avps _ h

those_plain : (d : Dictionary) (u : Unknown) (most : Levels) (avps these : List PlainAvp) → AllByRecursion Agrees avps → AreThose (IsFitOf d u most proxy_info) avps these → AllByRecursion IsPlain (map copied these)
those_plain d u most [] these all h = subst (λ (vs : List PlainAvp). AllByRecursion IsPlain (map copied vs)) (sym h) tt
those_plain d u most (v ∷ avps) these all (inl (others, fits, parts, rest)) =
    subst (λ (vs : List PlainAvp). AllByRecursion IsPlain (map copied vs)) (sym parts) (copied_plain v all.0 fits.0, those_plain d u most avps others all.1 rest)
those_plain d u most (v ∷ avps) these all (inr (other, rest)) = those_plain d u most avps these all.1 rest

-- ---- the AVPs of each source

module _ (P : PlainAvp → Type 0) where
  one_or_none : (b : Bool) (v : PlainAvp) → (b ≡ true → P v) → AllByRecursion P (cond b (v ∷ []) [])
  one_or_none true v h = (h refl, tt)
  one_or_none false v h = tt

  all_messages : (d : Dictionary) (rules : List DRule) (line : Option (List ℕ)) → ((bytes : List ℕ) → line ≡ Some bytes → has_format is_text d error_message ≡ true → P (record { code = 281; flags = 0; vendor = None; bytes = bytes }))
      → AllByRecursion P (error_messages d rules line)
  all_messages d rules None h = tt
  all_messages d rules (Some line) h = one_or_none (has_format is_text d error_message && may_hold rules error_message) (record { code = 281; flags = 0; vendor = None; bytes = line })
      (λ e. h line refl (and_parts (has_format is_text d error_message) (may_hold rules error_message) e).0)

  all_failed : (d : Dictionary) (rules : List DRule) (failed : Option (List ℕ)) → ((bytes : List ℕ) → has_format is_nest d failed_avp ≡ true → P (own d 279 bytes)) → AllByRecursion P (failed_avps d form.Error rules failed)
  all_failed d rules None h = tt
  all_failed d rules (Some bytes) h = one_or_none (has_format is_nest d failed_avp && may_fail form.Error rules) (own d 279 bytes)
      (λ e. h bytes (and_parts (has_format is_nest d failed_avp) (may_fail form.Error rules) e).0)

  all_sources : (d : Dictionary) (rules : List DRule) (p : Parts) (avps : List PlainAvp) (s : IsStock d form.Error rules p avps) → AllByRecursion P s.session
      → AllByRecursion P (own d 268 p.code ∷ own d 264 p.host ∷ own d 296 p.realm ∷ []) → AllByRecursion P (error_messages d rules p.line) → AllByRecursion P (failed_avps d form.Error rules p.failed)
      → AllByRecursion P (map copied s.proxies) → AllByRecursion P avps
  all_sources d rules p avps s session owns message failed proxies =
      let own_avps : List PlainAvp = own d 268 p.code ∷ own d 264 p.host ∷ own d 296 p.realm ∷ [] in
      let messages = error_messages d rules p.line in
      let faults = failed_avps d form.Error rules p.failed in
      let copies : AllByRecursion P (map copied s.copies) = subst (λ (vs : List PlainAvp). AllByRecursion P (map copied vs)) (sym s.are_copies) tt in
      let second = all_append P (s.session ++ own_avps) messages (all_append P s.session own_avps session owns) message in
      let fourth = all_append P (s.session ++ own_avps ++ messages ++ faults) (map copied s.copies) (all_append P (s.session ++ own_avps ++ messages) faults second failed) copies in
      subst (AllByRecursion P) (sym s.parts) (all_append P (s.session ++ own_avps ++ messages ++ faults ++ map copied s.copies) (map copied s.proxies) fourth proxies)

session_plain : (d : Dictionary) (request these : List PlainAvp) → IsSession d request these → AllByRecursion IsPlain these
session_plain d request these h = by (find (λ v. same_key (key_of v) session_id) request) h
  where
    by : (o : Option PlainAvp) → MatchOption o (these ≡ []) (λ v. (TakesData d session_id v.bytes × (these ≡ own d 263 v.bytes ∷ [])) ⊎ ((¬ TakesData d session_id v.bytes) × (these ≡ []))) → AllByRecursion IsPlain these
    by None e = subst (AllByRecursion IsPlain) (sym e) tt
    by (Some v) (inl (takes, e)) = subst (AllByRecursion IsPlain) (sym e) (own_plain d 263 v.bytes (omega arith), tt)
    by (Some v) (inr (other, e)) = subst (AllByRecursion IsPlain) (sym e) tt

stock_plain : (d : Dictionary) (rules : List DRule) (p : Parts) (avps : List PlainAvp) → AllByRecursion Agrees p.request → IsStock d form.Error rules p avps → AllByRecursion IsPlain avps
stock_plain d rules p avps agree s =
    all_sources IsPlain d rules p avps s (session_plain d p.request s.session s.is_session)
    (own_plain d 268 p.code (omega arith), (own_plain d 264 p.host (omega arith), (own_plain d 296 p.realm (omega arith), tt)))
    (all_messages IsPlain d rules p.line (λ bytes is text. (cleared 0, refl, omega arith))) (all_failed IsPlain d rules p.failed (λ bytes nest. own_plain d 279 bytes (omega arith)))
    (those_plain d p.unknown p.levels p.request s.proxies agree s.are_proxies)

-- what is known of the parts of an answer
pub record AreSound (p : Parts) : Type 0 where
  pub agree : AllByRecursion Agrees p.request
  pub host : IsName p.host
  pub realm : IsName p.realm
  pub code : length p.code ≡ 4
  pub text : (bytes : List ℕ) → p.line ≡ Some bytes → IsUtf8 bytes

module _ (d : Dictionary) (is : IsDictionary d) (own_errors : HasErrorsOfBase d) where
  stock_fits : (p : Parts) (avps : List PlainAvp) → AreSound p → IsStock d form.Error error_rules p avps → AllByRecursion (FitsAlone d p.unknown p.levels) avps
  stock_fits p avps sound s =
      let u = p.unknown in
      let most = p.levels in
      all_sources (FitsAlone d u most) d error_rules p avps s (session_fits d is u most p.request s.session s.is_session) (
        own_fits d is u most 268 p.code (FourBytes Unsigned32) own_errors.code (λ same. absurd (let e : FourBytes Unsigned32 ≡ Grouped = same in cc)) sound.code,
        (
          own_fits d is u most 264 p.host DiameterIdentity own_errors.host (λ same. absurd (let e : DiameterIdentity ≡ Grouped = same in cc)) sound.host.1,
          (own_fits d is u most 296 p.realm DiameterIdentity own_errors.realm (λ same. absurd (let e : DiameterIdentity ≡ Grouped = same in cc)) sound.realm.1, tt),
        ),
      )
      (all_messages (FitsAlone d u most) d error_rules p.line (λ bytes at text. message_fits d is u most bytes (sound.text bytes at) own_errors.message text))
      (all_failed (FitsAlone d u most) d error_rules p.failed (λ bytes nest. failed_fits d is u most bytes nest))
      (proxies_fit d is u most s.proxies (all_those (IsFitOf d u most proxy_info) p.request s.proxies s.are_proxies))

  -- the dictionary's own error message is selected
  the_choice : (h : Header) → Choice d h.code classes.Error h.app
  the_choice h = by (choose d h.code classes.Error h.app)
    where
      by : Choice d h.code classes.Error h.app ⊎ NoChoice d h.code classes.Error h.app → Choice d h.code classes.Error h.app
      by (inl c) = c
      by (inr none) =
          let i = in_at d.commands own_errors.place own_errors.command own_errors.at in
          let found = is_of_errors own_errors.command h.code classes.Error None (Either, own_errors.head) refl in
          absurd (let bad : true ≡ false = sym found ∙ none.no_common own_errors.command i in cc)

  of_reads : (c : PlainDefinition) (code : ℕ) (app : Option ℕ) → Reads c code classes.Error app → IsSameSelector c.head own_errors.command.head
  of_reads c code app (inl ((p, e), same)) = subst (λ (x : DefHead). IsSameSelector x own_errors.command.head) (sym e) (subst (IsSameSelector (Error p)) (sym own_errors.head) tt)
  of_reads c code app (inr (code_is, other)) = absurd (other refl)

  error_there : (c : PlainDefinition) (code app : ℕ) → IsIn c d.commands → (is_command code classes.Error (Some app) c.head ≡ true) ⊎ (is_command code classes.Error None c.head ≡ true) → IsSameSelector c.head own_errors.command.head
  error_there c code app i (inl h) = of_reads c code (Some app) (reads d c code classes.Error (Some app) is i h)
  error_there c code app i (inr h) = of_reads c code None (reads d c code classes.Error None is i h)

  chosen : (h : Header) (c : Choice d h.code classes.Error h.app) → own_errors.place ≡ c.place
  chosen h c = sym (is.distinct_selectors c.place own_errors.place c.command own_errors.command c.at own_errors.at (error_there c.command h.code h.app (in_at d.commands c.place c.command c.at) (how c.how)))
    where
      how : (is_command h.code classes.Error (Some h.app) c.command.head ≡ true) ⊎ ((is_command h.code classes.Error None c.command.head ≡ true) × ((x : PlainDefinition) → IsIn x d.commands → is_command h.code classes.Error (Some h.app) x.head ≡ false))
          → (is_command h.code classes.Error (Some h.app) c.command.head ≡ true) ⊎ (is_command h.code classes.Error None c.command.head ≡ true)
      how (inl e) = inl e
      how (inr e) = inr e.0

  selects : (h : Header) → selected d h.code classes.Error h.app ≡ Some (length (groups d) + own_errors.place)
  selects h = let c = the_choice h in c.is_selected ∙ ap (λ (n : ℕ). Some (length (groups d) + n)) (sym (chosen h c))

  selects_opaque : (h : Header) → selected (opaque d) h.code classes.Error h.app ≡ Some (length (groups (opaque d)) + own_errors.place)
  selects_opaque h =
      sym (select_here d (grouped_failed d) refl h.code classes.Error h.app) ∙ ap (option_map (low (grouped_failed d))) (selects h)
      ∙ ap (λ (n : ℕ). Some n) (groups_here d (grouped_failed d) refl own_errors.place)

  rules_are : AreRules error_rules
  rules_are = subst AreRules own_errors.rules (command_rules d own_errors.command is (in_at d.commands own_errors.place own_errors.command own_errors.at))

  valid : (p : Parts) (h : Header) (avps : List PlainAvp) (bytes : List ℕ) → AreSound p → IsStock d form.Error error_rules p avps → IsMessage (answer_header h form.Error) (in_order error_rules avps) bytes
      → IsValid (opaque d) p.unknown p.levels bytes
  valid p h avps bytes sound s message =
      let own_header = answer_header h form.Error in
      let at = ap (λ (cs : List PlainDefinition). slice_get cs own_errors.place) (commands_same d (grouped_failed d)) ∙ own_errors.at in
      let fits = all_in_order (FitsAlone d p.unknown p.levels) error_rules avps (stock_fits p avps sound s) in (
        length (groups (opaque d)) + own_errors.place,
        record {
          header = own_header;
          avps = in_order error_rules avps;
          command = own_errors.command;
          message = message;
          no_error_request = λ r. absurd (r (no_request h.flags));
          no_repeated_answer = λ t. absurd (t (not_repeated h.flags));
          select = ap (λ (k : Class). selected (opaque d) h.code k h.app) (is_error h.flags) ∙ selects_opaque h;
          is_command = into_right (groups (opaque d)) (opaque d).commands own_errors.place own_errors.command at;
          proxiable = subst (λ (x : DefHead). AllowsP x own_header.flags) (sym own_errors.head) tt;
          placed = subst (λ (rs : List DRule). Placed rs (map key_of (in_order error_rules avps))) (sym own_errors.rules) (error_placed d p avps rules_are s);
          fit = joined (opaque d) p.unknown p.levels (in_order error_rules avps) (λ v i. in_all (FitsAlone d p.unknown p.levels) v (in_order error_rules avps) fits i);
        },
      )

  made_by : (p : Parts) (h : Header) (n : ℕ) (head : List ℕ) (avps : List PlainAvp) → AreSound p → IsHead (answer_header h form.Error) n head → AreBytes head → IsStock d form.Error error_rules p avps
      → AllByRecursion HoldsBytes avps → ¬ IsTooLong (in_order error_rules avps)
      → (bytes : List ℕ) × IsOfForm d h form.Error p bytes
  made_by p h n head avps sound is_head head_are s hold room =
      let plain = all_in_order IsPlain error_rules avps (stock_plain d error_rules p avps sound.agree s) in
      let made = written (answer_header h form.Error) n head (in_order error_rules avps) is_head head_are plain (all_in_order HoldsBytes error_rules avps hold) room in
      let rules = sym own_errors.rules in
      let at = into_right (groups d) d.commands own_errors.place own_errors.command own_errors.at in (
        made.0,
        record {
          command = own_errors.command;
          is_command = (length (groups d) + own_errors.place, selects h, at);
          avps = avps;
          are_avps = subst (λ (rs : List DRule). IsStock d form.Error rs p avps) rules s;
          listed = tt;
          room = subst (λ (rs : List DRule). ¬ IsTooLong (in_order rs avps)) rules room;
          message = subst (λ (rs : List DRule). MessageWithZeros (answer_header h form.Error) (in_order rs avps) made.0) rules made.1;
          are_bytes = made.2;
          valid = valid p h avps made.0 sound s made.1.message;
        },
      )

-- ---- there are such AVPs

with_those : (P : PlainAvp → Type 0) (avps : List PlainAvp) → ((these : List PlainAvp) → AreThose P avps these → ⊥) → ⊥
with_those P [] next = next [] refl
with_those P (v ∷ avps) next = with_those P avps (λ others rest. let other : ¬ P v = λ p. next (v ∷ others) (inl (others, p, refl, rest)) in next others (inr (other, rest)))

with_session : (d : Dictionary) (request : List PlainAvp) → ((these : List PlainAvp) → IsSession d request these → ⊥) → ⊥
with_session d request next = by (find (λ v. same_key (key_of v) session_id) request) next
  where
    by : (o : Option PlainAvp) → ((these : List PlainAvp) → MatchOption o (these ≡ []) (λ v. (TakesData d session_id v.bytes × (these ≡ own d 263 v.bytes ∷ [])) ⊎ ((¬ TakesData d session_id v.bytes) × (these ≡ []))) → ⊥) → ⊥
    by None next = next [] refl
    by (Some v) next = let other : ¬ TakesData d session_id v.bytes = λ takes. next (own d 263 v.bytes ∷ []) (inl (takes, refl)) in next [] (inr (other, refl))

with_stock : (d : Dictionary) (rules : List DRule) (p : Parts) → ((avps : List PlainAvp) → IsStock d form.Error rules p avps → ⊥) → ⊥
with_stock d rules p next = with_session d p.request (λ session is_session. with_those (IsFitOf d p.unknown p.levels proxy_info) p.request (λ proxies are_proxies. next
    (session ++ (own d 268 p.code ∷ own d 264 p.host ∷ own d 296 p.realm ∷ []) ++ error_messages d rules p.line ++ failed_avps d form.Error rules p.failed ++ map copied [] ++ map copied proxies)
    (record { session = session; copies = []; proxies = proxies; parts = refl; is_session = is_session; are_copies = refl; are_proxies = are_proxies })))

-- ---- the first form

in_either : (e : Extent) (p : Parts) → AreSound p → AreSound (in_extent e p)
in_either e p sound = record { agree = sound.agree; host = sound.host; realm = sound.realm; code = sound.code; text = by e }
  where
    by : (x : Extent) (bytes : List ℕ) → full x p.line ≡ Some bytes → IsUtf8 bytes
    by extent.Full bytes at = sound.text bytes at
    by extent.Bare bytes at = absurd (none-some bytes at)

-- no error message was made by the dictionary, but some message with this header
abbrev IsBeyond : Dictionary → Header → Parts → Type 0
IsBeyond d h p = (e : Extent) × HasNoneBy d h p (record { form = form.Error; extent = e }) × ((n : ℕ) × (head : List ℕ) × IsHead (answer_header h form.Error) n head × AreBytes head)

abbrev is_base : Form → Bool
is_base form.Base = true
is_base f = false

other_form : {X : Type 0} (f : Form) → form.Base ≡ f → is_base f ≡ false → X
other_form f e other = absurd (let bad : true ≡ false = ap is_base e ∙ other in cc)

header_of : (d : Dictionary) (h : Header) (p : Parts) (e : Extent) (bytes : List ℕ) → IsOfForm base h form.Base (in_extent e p) bytes
    → (n : ℕ) × (head : List ℕ) × IsHead (answer_header h form.Error) n head × AreBytes head
header_of d h p e bytes is =
    let m = is.message.message in
    (length bytes, m.head, m.is_head, (bytes_cases m.head m.body (subst AreBytes m.parts is.are_bytes)).0)

first_base : (d : Dictionary) (h : Header) (p : Parts) (code : ℕ) (bytes : List ℕ) → IsByFirst d h p (attempts_for code) form.Base bytes → IsBeyond d h p
first_base d h p code bytes first = by (code / 1000 == 5) first
  where
    forms : Bool → List Form
    forms b = cond b (form.Own ∷ form.Error ∷ form.Base ∷ []) (form.Error ∷ form.Base ∷ [])

    by : (b : Bool) → IsByFirst d h p (attempts_in extent.Full (forms b) ++ attempts_in extent.Bare (forms b)) form.Base bytes → IsBeyond d h p
    by true (inl (e, is)) = other_form form.Own e refl
    by true (inr (none, inl (e, is))) = other_form form.Error e refl
    by true (inr (none, inr (none_full, inl (e, is)))) = (extent.Full, none_full, header_of d h p extent.Full bytes is)
    by true (inr (none, inr (none_full, inr (none_base, inl (e, is))))) = other_form form.Own e refl
    by true (inr (none, inr (none_full, inr (none_base, inr (none_own, inl (e, is)))))) = other_form form.Error e refl
    by true (inr (none, inr (none_full, inr (none_base, inr (none_own, inr (none_bare, inl (e, is))))))) = (extent.Full, none_full, header_of d h p extent.Bare bytes is)
    by true (inr (none, inr (none_full, inr (none_base, inr (none_own, inr (none_bare, inr (none_bare_base, bad))))))) = absurd bad
    by false (inl (e, is)) = other_form form.Error e refl
    by false (inr (none_full, inl (e, is))) = (extent.Full, none_full, header_of d h p extent.Full bytes is)
    by false (inr (none_full, inr (none_base, inl (e, is)))) = other_form form.Error e refl
    by false (inr (none_full, inr (none_base, inr (none_bare, inl (e, is))))) = (extent.Full, none_full, header_of d h p extent.Bare bytes is)
    by false (inr (none_full, inr (none_base, inr (none_bare, inr (none_bare_base, bad))))) = absurd bad

pub own_errors : (d : Dictionary) (u : Unknown) (most : Levels) (host realm request : List ℕ) (made : Made) → IsDictionary d → HasErrorsOfBase d → IsName host → IsName realm
    → (f : HasFirstForm d u most host realm request made) → CanBeWritten d f.parts → made.form ≢ form.Base
own_errors d u most host realm request made is errors is_host is_realm f room is_base_form =
    let p = f.parts in
    let sound : AreSound p = record {
      agree = request_agrees made.fault.reason p.request request f.are_parts.reads;
      host = subst IsName (sym f.are_parts.is_host) is_host;
      realm = subst IsName (sym f.are_parts.is_realm) is_realm;
      code = ap length f.are_parts.code;
      text = λ bytes at. subst IsUtf8 (same_Some f.are_parts.text bytes (sym f.are_parts.has_text ∙ at)) f.are_parts.is_utf8;
    } in
    let (e, none, (n, head, is_head, head_are)) = first_base d f.header p made.fault.code made.bytes.items (subst (λ (x : Form). IsByFirst d f.header p (attempts_for made.fault.code) x made.bytes.items) is_base_form f.first) in
    with_stock d error_rules (in_extent e p) (λ avps s.
    let written_by = room e avps s in
    let b = made_by d is errors (in_extent e p) f.header n head avps (in_either e p sound) is_head head_are s written_by.0 written_by.1 in
    none b.0 b.1)
