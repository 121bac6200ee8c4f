-- Whether a message is refused once its header is fixed for a place doesn't depend on how it is fixed.
use Rattle.std.proofs.Common.{◌≡◌, ◌≢◌, ℕ, zero, suc, ◌+◌, ◌<◌, ◌≤◌, Bool, true, false, bit_and, List, ◌++◌, length, map, take, drop, Option, Some, None, refl, sym, ap, subst, ◌∙◌, arith, inl, inr}
use Rattle.std.specs.Prelude.{◌↔◌, ◌⊎◌, ◌==◌, IsTrue, not, if◌then◌else◌, slice_get, slice_index}
use Rattle.std.specs.Int.{IsBitSet}
use Rattle.std.proofs.Math.Seq.{take-append_seam}
use Rattle.std.proofs.lemmas.Bool.{ne_eqb}
use Rattle.std.proofs.lemmas.List.{append_cancel_left}
use Rattle.std.proofs.lemmas.Option.{none-some, same_Some}
use Rattle.dia_wire.specs.declared.Header.{Header}
use Rattle.dia_wire.specs.declared.MessageFault.{MessageFault}
use Rattle.dia_wire.specs.declared.MessageFault.TheVariants as faults
use Rattle.dia_wire.specs.Number.{number}
use Rattle.dia_wire.specs.Wire.{PlainAvp, key_of, BeginsMessage, IsHead, IsMessage, IsMessageLength, SpellsAll}
use Rattle.dia_wire.proofs.OneHeader.{head_says}
use Rattle.dia_book.specs.declared.Class.{Class}
use Rattle.dia_book.specs.declared.Class.TheVariants.{Request, Answer, Error as ErrorClass}
use Rattle.dia_book.specs.Dictionary.{Dictionary, IsDictionary, PlainDefinition, definitions, groups, selected}
use Rattle.dia_terms.specs.declared.Sends.{Sends}
use Rattle.dia_terms.specs.declared.Unknown.{Unknown}
use Rattle.dia_terms.specs.declared.Levels.TheVariants as levels
use Rattle.dia_check.specs.Faults.{HasLength}
use Rattle.dia_valid.specs.Valid.{AllFit, AllowsP, IsValid, Placed, class_of}
use Rattle.dia_valid.proofs.SelectedCommands.{Choice, NoChoice, choose, command_at}
use Rattle.dia_breaking.specs.declared.heads.Head.{Head}
use Rattle.dia_breaking.specs.declared.line.Place.{Place}
use Rattle.dia_breaking.specs.declared.line.Place.TheVariants as places
use Rattle.dia_breaking.specs.Confirmed.{IsConfirmed}
use Rattle.dia_breaking.specs.Free.{IsReadBy}
use Rattle.dia_breaking.specs.Headers.{IsCommandPlace, head_in}
use Rattle.dia_breaking.specs.declared.line.Line.{Line}
use Rattle.dia_breaking.specs.declared.line.Site.{Site}
use Rattle.dia_breaking.specs.Corrected.{BreaksAfter, BreaksOnceCorrected, IsCorrectedAt, is_of_header, p_bit}
use Rattle.dia_breaking.specs.Sides.{Sides, sides}
use Rattle.dia_breaking.specs.Words.{path_to}
use Rattle.dia_breaking.proofs.CorrectedHeaders.{header_is}
use Rattle.dia_breaking.proofs.CorrectedLines.{breaks_new}
use Rattle.dia_breaking.proofs.ReadLevels.{one_list}
use Rattle.dia_breaking.proofs.TooLong.{head_takes}

-- what is no value is none
pub no_some : {X : Type 0} (o : Option X) → ((x : X) → o ≡ Some x → ⊥) → o ≡ None
no_some None none = refl
no_some (Some x) none = absurd (none x refl)

-- ---- the header of a message

-- bytes whose length is sound begin a message that is whole
pub no_fault : (bytes : List ℕ) (fault : MessageFault) → HasLength bytes (length bytes) → (fault ≡ faults.Short → length bytes < 20)
    → (fault ≡ faults.Version → (20 ≤ length bytes) × (slice_index bytes 0 ≢ 1))
    → (fault ≡ faults.Length → (20 ≤ length bytes) × (slice_index bytes 0 ≡ 1) × ¬ IsMessageLength (number (take 3 (drop 1 bytes))))
    → (fault ≡ faults.Truncated → (n : ℕ) × BeginsMessage bytes n × (length bytes < n)) → (fault ≡ faults.Trailing → (n : ℕ) × BeginsMessage bytes n × (n < length bytes)) → ⊥
no_fault bytes faults.Short has short version sized truncated trailing = let e = short refl in let long = has.long in absurd (omega (arith, e, long))
no_fault bytes faults.Version has short version sized truncated trailing = (version refl).1 has.version
no_fault bytes faults.Length has short version sized truncated trailing = (sized refl).2 (subst IsMessageLength has.is_length has.sound)
no_fault bytes faults.Truncated has short version sized truncated trailing =
    let (n, begins, less) = truncated refl in
    let says = (head_says begins.0 n bytes begins.1).2 in
    let is = has.is_length in
    absurd (omega (arith, says, is, less))
no_fault bytes faults.Trailing has short version sized truncated trailing =
    let (n, begins, less) = trailing refl in
    let says = (head_says begins.0 n bytes begins.1).2 in
    let is = has.is_length in
    absurd (omega (arith, says, is, less))

-- a message is of one header and one list of AVPs
header_alike : (h k : Header) (vs ws : List PlainAvp) (bytes : List ℕ) → IsMessage h vs bytes → IsMessage k ws bytes → h ≡ k
header_alike h k vs ws bytes m n =
    let front : take 20 bytes ≡ m.head =
    ap (take 20) m.parts ∙ ap (λ (i : ℕ). take i (m.head ++ m.body)) (sym (head_takes h (length bytes) m.head m.is_head)) ∙ take-append_seam m.head m.body in
    header_is k h ws bytes n (subst (IsHead h (length bytes)) (sym front) m.is_head)

heads_alike : (h k : Header) (vs ws : List PlainAvp) (bytes : List ℕ) (m : IsMessage h vs bytes) (n : IsMessage k ws bytes) → m.head ≡ n.head
heads_alike h k vs ws bytes m n =
    let first : take 20 bytes ≡ m.head =
    ap (take 20) m.parts ∙ ap (λ (i : ℕ). take i (m.head ++ m.body)) (sym (head_takes h (length bytes) m.head m.is_head)) ∙ take-append_seam m.head m.body in
    let second : take 20 bytes ≡ n.head =
    ap (take 20) n.parts ∙ ap (λ (i : ℕ). take i (n.head ++ n.body)) (sym (head_takes k (length bytes) n.head n.is_head)) ∙ take-append_seam n.head n.body in
    sym first ∙ second

avps_alike : (h k : Header) (vs ws : List PlainAvp) (bytes : List ℕ) → IsMessage h vs bytes → IsMessage k ws bytes → vs ≡ ws
avps_alike h k vs ws bytes m n =
    let bodies : m.body ≡ n.body = append_cancel_left m.head m.body n.body (sym m.parts ∙ n.parts ∙ ap (λ (xs : List ℕ). xs ++ n.body) (sym (heads_alike h k vs ws bytes m n))) in
    one_list vs ws m.body m.is_body (subst (λ (xs : List ℕ). SpellsAll ws xs) (sym bodies) n.is_body)

-- ---- the class of flags

zeros_alike : (x y : ℕ) → ((x ≡ 0 → ⊥) ↔ (y ≡ 0 → ⊥)) → (x == 0) ≡ (y == 0)
zeros_alike zero zero same = refl
zeros_alike (suc x) (suc y) same = ne_eqb (suc x) 0 (λ e. omega (arith, e)) ∙ sym (ne_eqb (suc y) 0 (λ e. omega (arith, e)))
zeros_alike zero (suc y) same = absurd (same.1 (λ e. absurd (omega (arith, e))) refl)
zeros_alike (suc x) zero same = absurd (same.0 (λ e. absurd (omega (arith, e))) refl)

pub class_alike : (f g : ℕ) → (IsBitSet f 7 ↔ IsBitSet g 7) → (IsBitSet f 5 ↔ IsBitSet g 5) → class_of f ≡ class_of g
class_alike f g requests errors =
    ap (λ (b : Bool). if b then (if bit_and f 32 == 0 then Answer else ErrorClass) else Request) (zeros_alike (bit_and f 128) (bit_and g 128) requests)
    ∙ ap (λ (b : Bool). if bit_and g 128 == 0 then (if b then Answer else ErrorClass) else Request) (zeros_alike (bit_and f 32) (bit_and g 32) errors)

-- ---- a definition that is selected

selected_at : (d : Dictionary) (code : ℕ) (class : Class) (app n : ℕ) → selected d code class app ≡ Some n → (i : ℕ) × (n ≡ length (groups d) + i)
selected_at d code class app n is = by (choose d code class app)
  where
    by : Choice d code class app ⊎ NoChoice d code class app → (i : ℕ) × (n ≡ length (groups d) + i)
    by (inl one) = (one.place, same_Some n (length (groups d) + one.place) (sym is ∙ one.is_selected))
    by (inr none) = absurd (none-some n (sym none.is_none ∙ is))

-- one definition has one number
pub one_number : (d : Dictionary) → IsDictionary d → (code other : ℕ) (class kind : Class) (app its n m : ℕ) (y : PlainDefinition) → selected d code class app ≡ Some n
    → selected d other kind its ≡ Some m → slice_get (definitions d) n ≡ Some y → slice_get (definitions d) m ≡ Some y → n ≡ m
one_number d sound code other class kind app its n m y first second at_first at_second =
    let (i, is) = selected_at d code class app n first in
    let (j, are) = selected_at d other kind its m second in
    let same : i ≡ j = sound.distinct_commands i j y y (command_at d i n y is at_first) (command_at d j m y are at_second) refl in
    is ∙ ap (λ (k : ℕ). length (groups d) + k) same ∙ sym are

-- ---- fixed headers

module _ (da db : Dictionary) (who : Sends) (u : Unknown) (sound : IsDictionary da) (sound_b : IsDictionary db) (c : ℕ) (place : Place) where
  -- two headers that are fixed for a place select one definition
  selects_alike : (old new other : Header) → IsCorrectedAt (sides da db who u) c place old new → IsCorrectedAt (sides da db who u) c place old other
      → selected db new.code (class_of new.flags) new.app ≡ selected db other.code (class_of other.flags) other.app
  selects_alike old new other m n =
      let code : new.code ≡ other.code = m.mends.code ∙ sym n.mends.code in
      let class : class_of new.flags ≡ class_of other.flags = kept new m ∙ sym (kept other n) in
      let app : new.app ≡ other.app = one_app place new.app other.app m.at n.at in
      ap (λ (k : ℕ). selected db k (class_of new.flags) new.app) code ∙ ap (λ (k : Class). selected db other.code k new.app) class ∙ ap (λ (k : ℕ). selected db other.code (class_of other.flags) k) app
    where
      kept : (h : Header) → IsCorrectedAt (sides da db who u) c place old h → class_of h.flags ≡ class_of old.flags
      kept h k = class_alike h.flags old.flags (k.mends.flags 7 (λ e. absurd (omega (arith, e)))) (k.mends.flags 5 (λ e. absurd (omega (arith, e))))

      one_app : (p : Place) (a b : ℕ) → IsCommandPlace a p → IsCommandPlace b p → a ≡ b
      one_app (places.Command app read_as is_recorded proxiable) a b x y = sym x ∙ y
      one_app (places.Group key outer) a b x y = absurd x

  -- B selects another definition for the header that was tried, so no header is fixed for the place
  pub none_corrected : (app read_as def tried : ℕ) (is_recorded proxiable : Bool) (x y : PlainDefinition) (own : Head) (old : Header) → place ≡ places.Command app read_as is_recorded proxiable
      → slice_get (definitions da) c ≡ Some x → head_in x.head ≡ Some own → selected db own.code own.class read_as ≡ Some def
      → slice_get (definitions db) def ≡ Some y → ((bit : ℕ) → bit ≢ p_bit → IsBitSet tried bit ↔ IsBitSet old.flags bit)
      → (selected db old.code (class_of tried) read_as ≡ Some def → ⊥) → (new : Header) → ¬ IsCorrectedAt (sides da db who u) c place old new
  none_corrected app read_as def tried is_recorded proxiable x y own old is at_x head_x select at_y flags not_so new m =
      let (at_c, (h, number, head_is, selects, at_number)) = subst (λ (p : Place). IsReadBy da db c p m.command m.other) is m.read in
      let (n, selects_n, at_n) = m.mends.selected in
      let command : x ≡ m.command = same_Some x m.command (sym at_x ∙ at_c) in
      let head : own ≡ h = same_Some own h (sym head_x ∙ ap (λ (z : PlainDefinition). head_in z.head) command ∙ head_is) in
      let here : selected db own.code own.class read_as ≡ Some number = subst (λ (z : Head). selected db z.code z.class read_as ≡ Some number) (sym head) selects in
      let same : def ≡ number = same_Some def number (sym select ∙ here) in
      let its : n ≡ number = one_number db sound_b new.code h.code (class_of new.flags) h.class new.app read_as n number m.other selects_n selects at_n at_number in
      let class : class_of tried ≡ class_of new.flags =
      class_alike tried old.flags (flags 7 (λ e. absurd (omega (arith, e)))) (flags 5 (λ e. absurd (omega (arith, e))))
      ∙ sym (class_alike new.flags old.flags (m.mends.flags 7 (λ e. absurd (omega (arith, e)))) (m.mends.flags 5 (λ e. absurd (omega (arith, e))))) in
      let app_is : read_as ≡ new.app = subst (λ (p : Place). IsCommandPlace new.app p) is m.at in
      not_so (ap (λ (k : ℕ). selected db k (class_of tried) read_as) (sym m.mends.code) ∙ ap (λ (k : Class). selected db new.code k read_as) class
      ∙ ap (λ (k : ℕ). selected db new.code (class_of new.flags) k) app_is ∙ selects_n ∙ ap (λ (k : ℕ). Some k) (its ∙ sym same))

  -- ---- both answers

  module _ (bytes : List ℕ) (found : Header) (confirmed : IsConfirmed (sides da db who u) bytes c) (is_head : IsHead found (length bytes) (take 20 bytes)) where
    -- no header is fixed for the place
    pub never_corrected : ((new : Header) → ¬ IsCorrectedAt (sides da db who u) c place found new) → ¬ BreaksOnceCorrected (sides da db who u) c place bytes
    never_corrected none breaks =
        let own = header_is breaks.sent.header found breaks.sent.avps bytes breaks.sent.message is_head in
        none breaks.header (subst (λ (old : Header). IsCorrectedAt (sides da db who u) c place old breaks.header) (sym own) breaks.is_corrected)

    -- B's side takes the message with this header
    pub accepted_corrected : (new : Header) (message : List ℕ) → IsCorrectedAt (sides da db who u) c place found new
        → ((old : Header) (avps : List PlainAvp) → IsMessage old avps bytes → new.code ≡ old.code → new.hop ≡ old.hop → new.e2e ≡ old.e2e → IsMessage new avps message)
        → IsValid db u levels.Any message → ¬ BreaksOnceCorrected (sides da db who u) c place bytes
    accepted_corrected new message corrected spells (number, valid) breaks =
        let old = breaks.sent.header in
        let own : found ≡ old = header_is old found breaks.sent.avps bytes breaks.sent.message is_head in
        let here = subst (λ (h : Header). IsCorrectedAt (sides da db who u) c place h new) own corrected in
        let spelled = spells old breaks.sent.avps breaks.sent.message here.mends.code here.mends.hop here.mends.e2e in
        let header : valid.header ≡ new = header_alike valid.header new valid.avps breaks.sent.avps message valid.message spelled in
        let avps : valid.avps ≡ breaks.sent.avps = avps_alike valid.header new valid.avps breaks.sent.avps message valid.message spelled in
        let selects = selects_alike old new breaks.header here breaks.is_corrected in
        let select : selected db new.code (class_of new.flags) new.app ≡ Some number =
        subst (λ (h : Header). selected db h.code (class_of h.flags) h.app ≡ Some number) header valid.select in
        let (n, selects_n, at_n) = breaks.is_corrected.mends.selected in
        let same : n ≡ number = same_Some n number (sym selects_n ∙ sym selects ∙ select) in
        let other : breaks.is_corrected.other ≡ valid.command =
        same_Some breaks.is_corrected.other valid.command (sym at_n ∙ ap (slice_get (definitions db)) same ∙ valid.is_command) in
        breaks.breaks (
          number,
          record {
            header = breaks.header;
            avps = breaks.sent.avps;
            command = valid.command;
            message = breaks.message;
            no_error_request = λ request error. breaks.sent.no_error_request ((breaks.is_corrected.mends.flags 7 (λ e. absurd (omega (arith, e)))).0 request)
                ((breaks.is_corrected.mends.flags 5 (λ e. absurd (omega (arith, e)))).0 error);
            no_repeated_answer = λ repeated. (breaks.is_corrected.mends.flags 7 (λ e. absurd (omega (arith, e)))).1
                (breaks.sent.no_repeated_answer ((breaks.is_corrected.mends.flags 4 (λ e. absurd (omega (arith, e)))).0 repeated));
            select = sym selects ∙ select;
            is_command = valid.is_command;
            proxiable = subst (λ (y : PlainDefinition). AllowsP y.head breaks.header.flags) other breaks.is_corrected.mends.allowed;
            placed = subst (λ (vs : List PlainAvp). Placed valid.command.rules (map key_of vs)) avps valid.placed;
            fit = subst (λ (vs : List PlainAvp). AllFit db u levels.Any vs) avps valid.fit;
          },
        )

    -- so it breaks exactly where the message with this header is refused
    pub said_corrected : (new : Header) (message : List ℕ) → IsCorrectedAt (sides da db who u) c place found new
        → ((old : Header) (avps : List PlainAvp) → IsMessage old avps bytes → new.code ≡ old.code → new.hop ≡ old.hop → new.e2e ≡ old.e2e → IsMessage new avps message)
        → (accepted : Bool) → (IsTrue accepted ↔ IsValid db u levels.Any message) → IsTrue (not accepted) ↔ BreaksOnceCorrected (sides da db who u) c place bytes
    said_corrected new message corrected spells true iff = ((λ refused. absurd cc), (λ breaks. absurd (accepted_corrected new message corrected spells (iff.0 refl) breaks)))
    said_corrected new message corrected spells false iff =
        ((λ refused. breaks_new da db who u c place bytes found new confirmed is_head corrected message false spells iff refused), (λ breaks. refl))

-- ---- the place of a line

module _ (s : Sides) (c : ℕ) (sites : List Site) (line : Line) (bytes : List ℕ) where
  -- a line of the header asks nothing
  pub after_header : is_of_header line.cause ≡ true → IsTrue true ↔ BreaksAfter s c sites line bytes
  after_header is = ((λ yes. λ other. absurd (let e : true ≡ false = sym is ∙ other in cc)), (λ following. refl))

  module _ (other : is_of_header line.cause ≡ false) where
    pub after_none : slice_get (path_to sites line.site) 0 ≡ None → IsTrue false ↔ BreaksAfter s c sites line bytes
    after_none none = ((λ yes. absurd cc), (λ following. let (site, at, breaks) = following other in absurd (none-some site (sym none ∙ at))))

    pub after_place : (site : Site) → slice_get (path_to sites line.site) 0 ≡ Some site → (b : Bool) → (IsTrue b ↔ BreaksOnceCorrected s c site.place bytes)
        → IsTrue b ↔ BreaksAfter s c sites line bytes
    after_place site at b iff = (
      (λ yes. λ none. (site, at, iff.0 yes)),
      (λ following. let (its, its_at, breaks) = following other in
          iff.1 (subst (λ (x : Site). BreaksOnceCorrected s c x.place bytes) (same_Some its site (sym its_at ∙ at)) breaks)),
    )
