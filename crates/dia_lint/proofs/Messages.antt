-- A command has a valid message exactly where a message has room for its least level, and AVPs fit exactly where they have a
-- length.
use Rattle.std.proofs.Common.{◌≡◌, ℕ, zero, suc, ◌+◌, ◌*◌, ◌%◌, ◌^◌, ◌<◌, ◌≤◌, ◌≢◌, Bool, true, false, List, [], ◌∷◌, ◌++◌, length, map, Option, Some, refl, sym, ap, subst, ◌∙◌, arith, inl, inr, length-append}
use Rattle.std.specs.Prelude.{◌⊎◌, ◌↔◌, if◌then◌else◌, slice_get, Contains}
use Rattle.std.specs.Int.{w32, to_be_bytes}
use Rattle.std.specs.Option.{option_map_or}
use Rattle.std.proofs.lemmas.Bool.{cases_lt}
use Rattle.dia_wire.specs.declared.Header.{Header}
use Rattle.dia_wire.specs.declared.Key.{Key}
use Rattle.dia_wire.specs.Number.{number, IsField}
use Rattle.dia_wire.specs.Wire.{PlainAvp, IsHead, IsMessage, SpellsAll, key_of}
use Rattle.dia_book.specs.declared.DRule.{DRule}
use Rattle.dia_book.specs.Dictionary.{Dictionary, PlainDefinition, IsDictionary, definitions, groups}
use Rattle.dia_book.proofs.Members.{into_right}
use Rattle.dia_terms.specs.declared.Unknown.{Unknown}
use Rattle.dia_terms.specs.declared.Unknown.TheVariants.{Kept, Refused}
use Rattle.dia_terms.specs.declared.Levels.TheVariants as levels
use Rattle.dia_terms.specs.declared.Sends.{Sends}
use Rattle.dia_terms.specs.declared.Sends.TheVariants.{Any, Known, Filled, Listed}
use Rattle.dia_valid.specs.Valid.{AllFit, Fits, IsLevel, IsValidOf, Placed, is_listed, known}
use Rattle.dia_valid.proofs.Members.{contains_in, in_at}
use Rattle.dia_breaking_sites.specs.Sent.{AreBytes, AreSentAvps, IsSent, IsSentLevel, IsSentWithin, StandAsSent, own_policy}
use Rattle.dia_breaking_sites.proofs.Members.{all_map, all_parts}
use Rattle.dia_breaking_sites.proofs.SafeLevels.{body_more}
use Rattle.dia_breaking_sites.proofs.SentIsValid.{valid_sent}
use Rattle.dia_breaking_levels.specs.LeastLevels.{total}
use Rattle.dia_breaking_levels.specs.LevelTests.{too_long, base_length, least_filler, least_length, price}
use Rattle.dia_breaking_levels.proofs.AloneBounds.{least_within}
use Rattle.dia_breaking_levels.proofs.LeastLevels.{definition_rules}
use Rattle.dia_breaking_shortest.specs.Bytes.{length_bytes}
use Rattle.dia_breaking_shortest.specs.Floors.{IsSpellable}
use Rattle.dia_breaking_shortest.specs.Lengths.{length_of}
use Rattle.dia_breaking_shortest.proofs.BytesOfAvps.{data_bytes}
use Rattle.dia_breaking_shortest.proofs.FloorsOfAvps.{no_message, no_shorter, spelled_length}
use Rattle.dia_breaking_shortest.proofs.LeastBytes.{four_of_number, joined, three_of_number}
use Rattle.dia_breaking_shortest.proofs.SpelledParts.{spells_one}
use Rattle.dia_lint.specs.Costs.{AreLengths, level_of, other_length, sender_of}
use Rattle.dia_lint.specs.Exact.{HasAvp, HasMessage, IsNumbered}
use Rattle.dia_lint.proofs.Fillers.{filler_is, filler_least}
use Rattle.dia_lint.proofs.Headers.{IsHeaderOf, some_header}
use Rattle.dia_lint.proofs.MadeAvps.{made}
use Rattle.dia_lint.proofs.MadeLevels.{least_made, length_made}

-- ---- what is valid is what a side sends

own_of : (u : Unknown) → own_policy (sender_of u) ≡ u
own_of Kept = refl
own_of Refused = refl

abbrev IsSame : Sends → Type 0
IsSame sends = (rules : List DRule) (keys : List Key) → (StandAsSent sends rules keys → Placed rules keys) × (Placed rules keys → StandAsSent sends rules keys)

same_of : (u : Unknown) → IsSame (sender_of u)
same_of Kept = λ rules keys. (λ h. h.0, λ h. (h, inl refl))
same_of Refused = λ rules keys. (λ h. h.0, λ h. (h, inl refl))

pub not_filled : (u : Unknown) → sender_of u ≢ Filled
not_filled Kept = λ e. absurd (let bad : Any ≡ Filled = e in cc)
not_filled Refused = λ e. absurd (let bad : Known ≡ Filled = e in cc)

not_listed : (u : Unknown) → sender_of u ≢ Listed
not_listed Kept = λ e. absurd (let f : true ≡ false = ap is_any e in cc)
  where
    is_any : Sends → Bool
    is_any Any = true
    is_any other = false
not_listed Refused = λ e. absurd (let f : true ≡ false = ap is_known e in cc)
  where
    is_known : Sends → Bool
    is_known Known = true
    is_known other = false

module _ (d : Dictionary) (sends : Sends) (same : IsSame sends) where
  fits : (n : ℕ) (v : PlainAvp) → IsSentWithin d sends n v → Fits d (own_policy sends) n v
  fits zero v h = h
  fits (suc n) v h =
      body_more (own_policy sends) (IsSentLevel sends (IsSentWithin d sends n)) (IsLevel (Fits d (own_policy sends) n)) v (known d (key_of v))
      (λ rules l. (l.0, l.1, (same rules (map key_of l.0)).0 l.2, all_map (IsSentWithin d sends n) (Fits d (own_policy sends) n) l.0 (λ w k. fits n w k) l.3)) h

  sent : (n : ℕ) (v : PlainAvp) → Fits d (own_policy sends) n v → IsSentWithin d sends n v
  sent zero v h = h
  sent (suc n) v h =
      body_more (own_policy sends) (IsLevel (Fits d (own_policy sends) n)) (IsSentLevel sends (IsSentWithin d sends n)) v (known d (key_of v))
      (λ rules l. (l.0, l.1, (same rules (map key_of l.0)).1 l.2, all_map (Fits d (own_policy sends) n) (IsSentWithin d sends n) l.0 (λ w k. sent n w k) l.3)) h

-- ---- AVPs

module _ (d : Dictionary) (sends : Sends) (lengths : List ℕ) (others : List Key) (is : IsDictionary d) (are : AreLengths d sends lengths others) (same : IsSame sends) where
  avp_fits : (key : Key) → IsSpellable key → length_of d sends lengths key < too_long → HasAvp d (own_policy sends) key
  avp_fits key small short =
      let (v, bytes, is_key, s, spelled, all, size) = length_made d sends lengths is are.spelled are.exact key small short in
      (bytes, v, all, spelled, is_key, (s.0, (fits d sends same s.0 v s.1, tt)), omega (arith, size, short))

  avp_length : (key : Key) → HasAvp d (own_policy sends) key → length_of d sends lengths key < too_long
  avp_length key (bytes, v, all, spelled, is_key, (n, fit), short) =
      let inner = data_bytes (v ∷ []) bytes v (spells_one v bytes spelled) all (inl refl) in
      let low = no_shorter d sends (length_of d sends lengths) are.floors v inner (n, sent d sends same n v fit.0) in
      let size = spelled_length v bytes spelled in
      let own : length_of d sends lengths (key_of v) ≡ length_of d sends lengths key = ap (length_of d sends lengths) is_key in
      omega (arith, low, size, own, short)

-- ---- bodies

pub aligned : (vs : List PlainAvp) (b : List ℕ) → SpellsAll vs b → length b % 4 ≡ 0
aligned [] b h = ap (λ (x : List ℕ). length x % 4) h
aligned (v ∷ vs) b (front, rest, s, p, all) =
    let e : length b ≡ length front + length rest = ap length p ∙ length-append front rest in
    omega (arith, e, s.aligned, aligned vs rest all)

abbrev IsByte : ℕ → Type 0
IsByte byte = byte < 256

below_three_bytes : (a : List ℕ) → length a ≡ 3 → AreBytes a → number a < 2 ^ 24
below_three_bytes [] e h = absurd (omega (arith, e))
below_three_bytes (x ∷ []) e h = absurd (omega (arith, e))
below_three_bytes (x ∷ y ∷ []) e h = absurd (omega (arith, e))
below_three_bytes (x ∷ y ∷ z ∷ []) e h = let less : x * 65536 + (y * 256 + (z * 1 + 0)) < 16777216 = omega (arith, h.0, h.1.0, h.1.1.0) in less
below_three_bytes (x ∷ y ∷ z ∷ w ∷ more) e h = absurd (let f : suc (suc (suc (suc (length more)))) ≡ 3 = e in omega (arith, f))

three_small : (n : ℕ) (bytes : List ℕ) → IsField 3 n bytes → AreBytes bytes → n < 2 ^ 24
three_small n bytes field all = subst (λ (k : ℕ). k < 2 ^ 24) field.value (below_three_bytes bytes field.width all)

-- ---- messages

four_field : (n : ℕ) → n < 2 ^ 32 → IsField 4 n (to_be_bytes w32 n)
four_field n small = record { width = refl; value = omega (arith, small) }

three_field : (n : ℕ) → n < 2 ^ 24 → IsField 3 n (length_bytes n)
three_field n small = record { width = refl; value = omega (arith, small) }

abbrev head_bytes : Header → ℕ → List ℕ
head_bytes h n = (1 ∷ length_bytes n) ++ (h.flags ∷ length_bytes h.code) ++ to_be_bytes w32 h.app ++ to_be_bytes w32 h.hop ++ to_be_bytes w32 h.e2e

head_are : (h : Header) (n : ℕ) → h.flags < 256 → AreBytes (head_bytes h n)
head_are h n small =
    let front = 1 ∷ length_bytes n in
    let middle = h.flags ∷ length_bytes h.code in
    let app = to_be_bytes w32 h.app in
    let hop = to_be_bytes w32 h.hop in
    joined (front ++ middle ++ app ++ hop) (to_be_bytes w32 h.e2e)
    (joined (front ++ middle ++ app) hop
    (joined (front ++ middle) app (joined front middle (omega arith, three_of_number n) (small, three_of_number h.code)) (four_of_number h.app)) (four_of_number h.hop)) (four_of_number h.e2e)

module _ (d : Dictionary) (c : ℕ) (command : PlainDefinition) (at : slice_get (definitions d) c ≡ Some command) where
  abbrev IsHeaded : Header → Type 0
  IsHeaded h = IsHeaderOf d c command.head h

  -- the header before a level that a message has room for
  message_of : (h : Header) → IsHeaded h → (avps : List PlainAvp) (body : List ℕ) → SpellsAll avps body → length body < too_long → IsMessage h avps (head_bytes h (20 + length body) ++ body)
  message_of h of avps body spelled short =
      let n = 20 + length body in
      let size : length (head_bytes h n ++ body) ≡ n = length-append (head_bytes h n) body in
      let head : IsHead h n (head_bytes h n) = record {
        len = length_bytes n;
        code = length_bytes h.code;
        app = to_be_bytes w32 h.app;
        hop = to_be_bytes w32 h.hop;
        e2e = to_be_bytes w32 h.e2e;
        parts = refl;
        length_field = three_field n (omega (arith, short));
        code_field = three_field h.code of.code;
        app_field = four_field h.app of.app;
        hop_field = four_field h.hop (let none = of.hop in omega (arith, none));
        e2e_field = four_field h.e2e (let none = of.e2e in omega (arith, none));
      } in
      record {
        head = head_bytes h n;
        body = body;
        parts = refl;
        is_head = subst (λ (k : ℕ). IsHead h k (head_bytes h n)) (sym size) head;
        is_body = spelled;
      }

  -- it is sent, if the level can be
  pub sent_message : (sends : Sends) (h : Header) → IsHeaded h → (avps : List PlainAvp) (body : List ℕ) → SpellsAll avps body → length body < too_long → AreBytes body
      → StandAsSent sends command.rules (map key_of avps) → AreSentAvps d sends avps → (bytes : List ℕ) × (sent : IsSent d sends bytes c) × (sent.avps ≡ avps)
  sent_message sends h of avps body spelled short all stand sent = (
    head_bytes h (20 + length body) ++ body,
    record {
      header = h;
      avps = avps;
      command = command;
      are_bytes = joined (head_bytes h (20 + length body)) body (head_are h (20 + length body) of.flags) all;
      message = message_of h of avps body spelled short;
      no_error_request = of.no_error_request;
      no_repeated_answer = of.no_repeated_answer;
      select = of.select;
      is_command = at;
      proxiable = of.proxiable;
      stand = stand;
      sent = sent;
    },
    refl,
  )

  module _ (sends : Sends) (lengths : List ℕ) (others : List Key) (is : IsDictionary d) (are : AreLengths d sends lengths others) (same : IsSame sends) where
    there : Contains (definitions d) command
    there = contains_in (definitions d) command (in_at (definitions d) c command at)

    own_level : level_of d sends lengths others c ≡ base_length (length_of d sends lengths) (least_filler (other_length d sends lengths) others command.rules) command.rules
    own_level = ap (λ (o : Option PlainDefinition). least_length (length_of d sends lengths) (other_length d sends lengths) others (option_map_or (λ x. x.rules) o [])) at

    message_made : (h : Header) → IsHeaded h → level_of d sends lengths others c < too_long → (bytes : List ℕ) × IsSent d sends bytes c
    message_made h of short =
        let a = least_filler (other_length d sends lengths) others command.rules in
        let filler = filler_is d lengths is command there sends others are.exact are.are_others in
        let own = own_level in
        let (keys, stand, all, sum) = least_made d sends lengths is are.spelled are.exact a command there filler (omega (arith, own, short)) in
        let b = made d sends (length_of d sends lengths) keys all in
        let size = b.size in
        let (bytes, sent, same_avps) = sent_message sends h of b.avps b.bytes b.spelled (omega (arith, size, sum, own, short)) b.are (subst (StandAsSent sends command.rules) (sym b.keys_are) stand) (b.depth, b.fit) in
        (bytes, sent)

    price_same : (rules : List DRule) (keys : List Key) → ((key : Key) → other_length d sends lengths key ≡ length_of d sends lengths key)
        → total (price (length_of d sends lengths) (other_length d sends lengths) rules) keys ≡ total (length_of d sends lengths) keys
    price_same rules [] all = refl
    price_same rules (k ∷ keys) all = by (is_listed rules k) (all k) (price_same rules keys all)
      where
        by : (b : Bool) → other_length d sends lengths k ≡ length_of d sends lengths k
            → total (price (length_of d sends lengths) (other_length d sends lengths) rules) keys ≡ total (length_of d sends lengths) keys
            → (if b then length_of d sends lengths k else other_length d sends lengths k) + total (price (length_of d sends lengths) (other_length d sends lengths) rules) keys
            ≡ length_of d sends lengths k + total (length_of d sends lengths) keys
        by true here ih = omega (arith, ih)
        by false here ih = omega (arith, here, ih)

    -- a valid message has room for the least level
    level_within : ((key : Key) → other_length d sends lengths key ≡ length_of d sends lengths key) → (keys : List Key) → Placed command.rules keys
        → level_of d sends lengths others c ≤ total (length_of d sends lengths) keys
    level_within all keys placed =
        let f = length_of d sends lengths in
        let other = other_length d sends lengths in
        let low = least_within f other others command.rules (least_length f other others command.rules) (definition_rules d command is there) refl
        (filler_least d lengths is command there sends others are.exact are.are_others) keys placed in
        let own = own_level in
        let same_price = price_same command.rules keys all in
        omega (arith, low, own, same_price)

-- a message is a header of 20 bytes, and a body
head_size : (h : Header) (vs : List PlainAvp) (b : List ℕ) (m : IsMessage h vs b) → length m.head ≡ 20
head_size h vs b m =
    let s = m.is_head in
    let e1 = length-append ((1 ∷ s.len) ++ (h.flags ∷ s.code) ++ s.app ++ s.hop) s.e2e in
    let e2 = length-append ((1 ∷ s.len) ++ (h.flags ∷ s.code) ++ s.app) s.hop in
    let e3 = length-append ((1 ∷ s.len) ++ (h.flags ∷ s.code)) s.app in
    let e4 = length-append (1 ∷ s.len) (h.flags ∷ s.code) in
    ap length s.parts ∙ omega (arith, e1, e2, e3, e4, s.length_field.width, s.code_field.width, s.app_field.width, s.hop_field.width, s.e2e_field.width)

-- what the bodies of messages take at most
pub body_short : (h : Header) (vs : List PlainAvp) (b : List ℕ) (m : IsMessage h vs b) → AreBytes b → length m.body < too_long
body_short h vs b m all =
    let s = m.is_head in
    let whole = subst AreBytes m.parts all in
    let head = subst AreBytes s.parts (all_parts IsByte m.head m.body whole).0 in
    let fourth = (all_parts IsByte ((1 ∷ s.len) ++ (h.flags ∷ s.code) ++ s.app ++ s.hop) s.e2e head).0 in
    let third = (all_parts IsByte ((1 ∷ s.len) ++ (h.flags ∷ s.code) ++ s.app) s.hop fourth).0 in
    let second = (all_parts IsByte ((1 ∷ s.len) ++ (h.flags ∷ s.code)) s.app third).0 in
    let first = (all_parts IsByte (1 ∷ s.len) (h.flags ∷ s.code) second).0 in
    let less = three_small (length b) s.len s.length_field first.1 in
    let size = head_size h vs b m in
    let all_size : length b ≡ length m.head + length m.body = ap length m.parts ∙ length-append m.head m.body in
    let step = aligned vs m.body m.is_body in
    omega (arith, less, size, all_size, step)

body_within : (h : Header) (vs : List PlainAvp) (b : List ℕ) (m : IsMessage h vs b) → AreBytes b → (n : ℕ) → 20 + n ≤ length b → n < too_long
body_within h vs b m all n low =
    let short = body_short h vs b m all in
    let size = head_size h vs b m in
    let all_size : length b ≡ length m.head + length m.body = ap length m.parts ∙ length-append m.head m.body in
    omega (arith, short, size, all_size, low)

-- what is valid is sent
pub sent_stand : (u : Unknown) (rules : List DRule) (keys : List Key) → Placed rules keys → StandAsSent (sender_of u) rules keys
sent_stand u rules keys placed = (same_of u rules keys).1 placed

pub sent_avps : (d : Dictionary) (u : Unknown) (avps : List PlainAvp) → AllFit d u levels.Any avps → AreSentAvps d (sender_of u) avps
sent_avps d Kept avps (n, all) = (n, all_map (Fits d Kept n) (IsSentWithin d Any n) avps (λ v k. sent d Any (same_of Kept) n v k) all)
sent_avps d Refused avps (n, all) = (n, all_map (Fits d Refused n) (IsSentWithin d Known n) avps (λ v k. sent d Known (same_of Refused) n v k) all)

-- and what is sent is valid
fit_avps : (d : Dictionary) (u : Unknown) (avps : List PlainAvp) → AreSentAvps d (sender_of u) avps → AllFit d u levels.Any avps
fit_avps d Kept avps (n, all) = (n, all_map (IsSentWithin d Any n) (Fits d Kept n) avps (λ v k. fits d Any (same_of Kept) n v k) all)
fit_avps d Refused avps (n, all) = (n, all_map (IsSentWithin d Known n) (Fits d Refused n) avps (λ v k. fits d Known (same_of Refused) n v k) all)

pub valid_of : (d : Dictionary) (u : Unknown) (bytes : List ℕ) (c : ℕ) (s : IsSent d (sender_of u) bytes c) → (valid : IsValidOf d u levels.Any bytes c) × (valid.avps ≡ s.avps)
valid_of d u bytes c s = (
  record {
    header = s.header;
    avps = s.avps;
    command = s.command;
    message = s.message;
    no_error_request = s.no_error_request;
    no_repeated_answer = s.no_repeated_answer;
    select = s.select;
    is_command = s.is_command;
    proxiable = s.proxiable;
    placed = (same_of u s.command.rules (map key_of s.avps)).0 s.stand;
    fit = fit_avps d u s.avps s.sent;
  },
  refl,
)

module _ (d : Dictionary) (u : Unknown) (lengths : List ℕ) (others : List Key) (is : IsDictionary d) (are : AreLengths d (sender_of u) lengths others) where
  pub others_same : (key : Key) → other_length d (sender_of u) lengths key ≡ length_of d (sender_of u) lengths key
  others_same key = by u
    where
      by : (w : Unknown) → other_length d (sender_of w) lengths key ≡ length_of d (sender_of w) lengths key
      by Kept = refl
      by Refused = refl

  has_room : (c : ℕ) → HasMessage d u c → level_of d (sender_of u) lengths others c < too_long
  has_room c (bytes, all, valid) =
      let own = subst (λ (p : Unknown). IsValidOf d p levels.Any bytes c) (sym (own_of u)) valid in
      let s = valid_sent d (sender_of u) bytes c (not_filled u) (not_listed u) all own in
      let low = no_message d (sender_of u) (length_of d (sender_of u) lengths) are.floors bytes c s in
      let keys = map key_of s.avps in
      let within = level_within d c s.command s.is_command (sender_of u) lengths others is are (same_of u) others_same keys ((same_of u s.command.rules keys).0 s.stand) in
      let short = body_within s.header s.avps bytes s.message all (total (length_of d (sender_of u) lengths) keys) low in
      omega (arith, within, short)

  -- a command whose least level a message has room for has a valid message
  pub room_message : (i : ℕ) (command : PlainDefinition) → slice_get d.commands i ≡ Some command → IsNumbered command.head
      → level_of d (sender_of u) lengths others (length (groups d) + i) < too_long → HasMessage d u (length (groups d) + i)
  room_message i command at numbered short =
      let place : slice_get (definitions d) (length (groups d) + i) ≡ Some command = into_right (groups d) d.commands i command at in
      let (h, of) = some_header d is i command at numbered in
      let (bytes, s) = message_made d (length (groups d) + i) command place (sender_of u) lengths others is are (same_of u) h of short in
      (bytes, s.are_bytes, (valid_of d u bytes (length (groups d) + i) s).0)

  pub no_message_exact : (i : ℕ) (command : PlainDefinition) → slice_get d.commands i ≡ Some command → IsNumbered command.head
      → (too_long ≤ level_of d (sender_of u) lengths others (length (groups d) + i)) ↔ ¬ HasMessage d u (length (groups d) + i)
  no_message_exact i command at numbered = (
    λ long has. let short = has_room (length (groups d) + i) has in omega (arith, long, short),
    λ none. by none (cases_lt (level_of d (sender_of u) lengths others (length (groups d) + i)) too_long),
  )
    where
      by : ¬ HasMessage d u (length (groups d) + i)
          → (level_of d (sender_of u) lengths others (length (groups d) + i) < too_long) ⊎ (too_long ≤ level_of d (sender_of u) lengths others (length (groups d) + i))
          → too_long ≤ level_of d (sender_of u) lengths others (length (groups d) + i)
      by none (inr long) = long
      by none (inl short) = absurd (none (room_message i command at numbered short))

  -- an AVP of a key that has a length fits
  pub room_avp : (key : Key) → IsSpellable key → length_of d (sender_of u) lengths key < too_long → HasAvp d u key
  room_avp key small short = subst (λ (p : Unknown). HasAvp d p key) (own_of u) (avp_fits d (sender_of u) lengths others is are (same_of u) key small short)

  pub no_level_exact : (key : Key) → IsSpellable key → (too_long ≤ length_of d (sender_of u) lengths key) ↔ ¬ HasAvp d u key
  no_level_exact key small = (
    λ long has.
        let own = subst (λ (p : Unknown). HasAvp d p key) (sym (own_of u)) has in
        let short = avp_length d (sender_of u) lengths others is are (same_of u) key own in
        omega (arith, long, short),
    λ none. by none (cases_lt (length_of d (sender_of u) lengths key) too_long),
  )
    where
      by : ¬ HasAvp d u key → (length_of d (sender_of u) lengths key < too_long) ⊎ (too_long ≤ length_of d (sender_of u) lengths key) → too_long ≤ length_of d (sender_of u) lengths key
      by none (inr long) = long
      by none (inl short) = absurd (none (room_avp key small short))
