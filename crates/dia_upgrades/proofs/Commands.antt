-- The lines of all commands.
use Rattle.std.proofs.Common.{◌≡◌, ℕ, ◌+◌, ◌<◌, ◌^◌, Bool, true, false, List, [], ◌∷◌, ◌++◌, Option, Result, Ok, Err, drop, get_or, length, take, refl, sym, ap, subst, ◌∙◌, append_assoc}
use Rattle.std.specs.Prelude.{IfErr, IsOk, OnOk}
use Rattle.std.specs.List.{list_any}
use Rattle.std.specs.Io.KnownBytes.{Appends}
use Rattle.std.proofs.KnownBytes.{Appends-nil}
use Rattle.std.proofs.lemmas.List.{append-nil, length-append, take-append-drop, take_more}
use Rattle.dia_io.specs.declared.RunFault.{RunFault}
use Rattle.dia_io.specs.declared.RunFault.TheVariants.{Device, NoMemory}
use Rattle.dia_io.specs.Writing.{AppendsFront}
use Rattle.dia_accepted.specs.Accepted.{PlainEntry}
use Rattle.dia_breaking.specs.Confirmed.{most_checked_together}
use Rattle.dia_breaking.specs.Messages.{Stock}
use Rattle.dia_breaking.specs.Sides.{Sides}
use Rattle.dia_upgrades.specs.declared.asked.Asked.{Asked}
use Rattle.dia_upgrades.specs.declared.lines.Listing.{Listing}
use Rattle.dia_upgrades.specs.declared.pending.Pending.{Pending}
use Rattle.dia_upgrades.specs.Places.{IsEachNew}
use Rattle.dia_breaking.specs.Stocks.{IsStockOf}
use Rattle.dia_upgrades.specs.Recorded.{AreBothParts, AreShortest, IsRecordedOf}
use Rattle.dia_upgrades.specs.UnderWay.{AreAllPut, AreFirstLines, AreSeen, AreUnderWay, GoesOn, IsPut, IsUnderWay, Occurs, OccursAfter, OccursPut, StopsIn, among, before, text_shown}
use Rattle.dia_upgrades.proofs.Listings.{none_of_place}
use Rattle.dia_upgrades.proofs.LinesToReport.{left_both, nothing_shown}
use Rattle.dia_upgrades.proofs.Parts.{both_more}
use Rattle.dia_upgrades.proofs.Puts.{none_put}
use Rattle.dia_upgrades.specs.Rows.{Row, is_command, left_of}
use Rattle.dia_upgrades.specs.Writing.{Writing}

module _ (w : Writing) (s : Sides) (k : Stock) (asked : Asked) (lengths : List ℕ) (forgets : Bool) (list : List PlainEntry) (begun : Option (List ℕ)) where
  abbrev Records : ℕ → ℕ → ℕ → List Row → List Row → Type 0
  Records = IsRecordedOf s k asked.messages asked.meaning lengths

  -- the lines of the first commands are known, and put or pending
  pub record AreSome (places : List ℕ) (put : Option (List ℕ)) (listing : Listing) : Type 0 where
    pub recorded : List Row
    pub apart : List Row
    pub place : ℕ
    pub are_both : AreBothParts (IsRecordedOf s k asked.messages asked.meaning lengths) places most_checked_together listing.budget recorded apart
    pub under_way : IsUnderWay w asked forgets list place (length places) begun put listing recorded apart

  pub none_yet : (put : Option (List ℕ)) (listing : Listing) (place : ℕ) → listing.budget ≡ most_checked_together → IsUnderWay w asked forgets list place 0 begun put listing [] [] → AreSome [] put listing
  none_yet put listing place all way = record { recorded = []; apart = []; place = place; are_both = (all, refl, refl); under_way = way }

  length_next : (places : List ℕ) (i d : ℕ) → i < length places → length (take (i + 1) places) ≡ length (take i places) + 1
  length_next places i d less = ap length (take_more places i d less) ∙ length-append (take i places) (get_or places i d ∷ [])

  module _ (places : List ℕ) (i d : ℕ) (less : i < length places) (a c : Option (List ℕ)) (old begin new : Listing) (some : AreSome (take i places) a old) where
    abbrev pub visits : ℕ
    visits = length (take i places) + 1

    -- the next command begins
    module _ (next : (recorded apart : List Row) → (forgets ≡ true → (list_any (is_command (get_or places i d)) recorded ≡ false) × (list_any (is_command (get_or places i d)) apart ≡ false))
        → AreSeen asked forgets list some.place (length (take i places)) old.seen recorded apart → AreSeen asked forgets list (get_or places i d) visits begin.seen recorded apart)
        (pending : begin.pending ≡ old.pending) (budget : begin.budget ≡ old.budget) (new_ones : forgets ≡ true → IsEachNew places) (small : visits < 2 ^ 63) where
      begins : IsUnderWay w asked forgets list (get_or places i d) visits begun a begin some.recorded some.apart
      begins =
          record {
            seen = next some.recorded some.apart (λ e. none_of_place s k asked.messages asked.meaning lengths (get_or places i d) (take i places) most_checked_together old.budget some.recorded some.apart some.are_both (new_ones e i d less))
                some.under_way.seen;
            is_put = subst (λ p. IsPut begun a p (text_shown w asked (left_of list some.recorded))) (sym pending) some.under_way.is_put;
          }

      pub goes_next : (recorded apart : List Row) → Records (get_or places i d) begin.budget new.budget recorded apart → GoesOn w asked (get_or places i d) a c begin new recorded apart → AreSome (take (i + 1) places) c new
      goes_next recorded apart is goes = record {
        recorded = some.recorded ++ recorded;
        apart = some.apart ++ apart;
        place = get_or places i d;
        are_both = both_more Records places i d most_checked_together old.budget new.budget some.recorded some.apart recorded apart less some.are_both
            (subst (λ (n : ℕ). Records (get_or places i d) n new.budget recorded apart) budget is);
        under_way = subst (λ (n : ℕ). IsUnderWay w asked forgets list (get_or places i d) n begun c new (some.recorded ++ recorded) (some.apart ++ apart)) (sym (length_next places i d less))
            (goes forgets list visits begun some.recorded some.apart small begins);
      }

      -- or it stops there
      pub stops_there : AreShortest s.sender s.sends lengths → IsStockOf s lengths k → (fault : RunFault) → StopsIn w s k asked lengths (get_or places i d) fault a c begin new
          → (first : List Row) × AreFirstLines s asked list places first × Occurs fault begun c new.pending (text_shown w asked first)
      stops_there shortest is_stock fault (before stops) = (
        left_of list some.recorded,
        record {
          front = take i places;
          back = drop i places;
          recorded = some.recorded;
          apart = some.apart;
          more = [];
          parts = sym (take-append-drop i places);
          are_recorded = record { lengths = lengths; stock = k; following = old.budget; are_shortest = shortest; is_stock = is_stock; each = some.are_both };
          left_are = sym (append-nil (left_of list some.recorded));
        },
        subst (λ (xs : List Row). Occurs fault begun c new.pending (text_shown w asked (left_of list xs))) (append-nil some.recorded)
            (stops forgets list visits begun some.recorded some.apart small begins),
      )
      stops_there shortest is_stock fault (among following more rest others is stops) = (
        left_of list (some.recorded ++ more),
        record {
          front = take (i + 1) places;
          back = drop (i + 1) places;
          recorded = some.recorded ++ (more ++ rest);
          apart = some.apart ++ others;
          more = left_of list rest;
          parts = sym (take-append-drop (i + 1) places);
          are_recorded = record {
            lengths = lengths;
            stock = k;
            following = following;
            are_shortest = shortest;
            is_stock = is_stock;
            each = both_more Records places i d most_checked_together old.budget following some.recorded some.apart (more ++ rest) others less some.are_both
                (subst (λ (n : ℕ). Records (get_or places i d) n following (more ++ rest) others) budget is);
          };
          left_are = ap (left_of list) (sym (append_assoc some.recorded more rest)) ∙ left_both list (some.recorded ++ more) rest;
        },
        stops forgets list visits begun some.recorded some.apart small begins,
      )

  -- all of them
  pub all_some : (places : List ℕ) (put : Option (List ℕ)) (listing : Listing) → AreShortest s.sender s.sends lengths → IsStockOf s lengths k → AreSome places put listing
      → AreUnderWay w s asked forgets list places begun put listing
  all_some places put listing shortest is_stock some = record {
    recorded = some.recorded;
    apart = some.apart;
    place = some.place;
    are_recorded = record { lengths = lengths; stock = k; following = listing.budget; are_shortest = shortest; is_stock = is_stock; each = some.are_both };
    under_way = some.under_way;
  }

-- ---- what is pending is put

pub failed_after : (U : Type 0) (fault : RunFault) (put new : Option (List ℕ)) (pending : Pending) → fault ≡ NoMemory
    → ((begun : Option (List ℕ)) (text : List ℕ) → IsPut begun put pending text → AppendsFront begun new text) → OccursAfter {U = U} (Err fault) Device put new pending
failed_after U fault put new pending is front = subst (λ (f : RunFault). OccursAfter {U = U} (Err f) Device put new pending) (sym is) front

module _ (w : Writing) (s : Sides) (asked : Asked) (forgets : Bool) (list : List PlainEntry) (places : List ℕ) (begun put new : Option (List ℕ)) (listing : Listing) where
  -- of all lines
  all_first : (way : AreUnderWay w s asked forgets list places begun put listing) → AreFirstLines s asked list places (left_of list way.recorded)
  all_first way = record {
    front = places;
    back = [];
    recorded = way.recorded;
    apart = way.apart;
    more = [];
    parts = sym (append-nil places);
    are_recorded = way.are_recorded;
    left_are = sym (append-nil (left_of list way.recorded));
  }

  pub rest_occurs : {U : Type 0} (found : Result U RunFault) → OnOk found (AreUnderWay w s asked forgets list places begun put listing)
      → IfErr found (λ fault. (first : List Row) × AreFirstLines s asked list places first × Occurs fault begun put listing.pending (text_shown w asked first))
      → (fault : RunFault) → OccursAfter found fault put new listing.pending → (first : List Row) × AreFirstLines s asked list places first × OccursPut fault begun new (text_shown w asked first)
  rest_occurs (Ok u) way stops Device front = (left_of list way.recorded, all_first way, front begun (text_shown w asked (left_of list way.recorded)) way.under_way.is_put)
  rest_occurs (Ok u) way stops NoMemory never = absurd never
  rest_occurs (Err NoMemory) way (first, are, occurs) fault following = (first, are, following begun (text_shown w asked first) occurs)
  rest_occurs (Err Device) way (first, are, occurs) Device (same, put_same) =
      (first, are, subst (λ (o : Option (List ℕ)). AppendsFront begun o (text_shown w asked first)) (sym put_same) occurs)
  rest_occurs (Err Device) way (first, are, occurs) NoMemory (same, put_same) = absurd (let z : NoMemory ≡ Device = same in cc)

  pub all_put : {U : Type 0} (found : Result U RunFault) → IsOk found → OnOk found (AreUnderWay w s asked forgets list places begun put listing)
      → ((start : Option (List ℕ)) (text : List ℕ) → IsPut start put listing.pending text → Appends start new text) → AreAllPut w s asked list places begun new listing.seen
  all_put (Ok u) ok way out = record {
    recorded = way.recorded;
    apart = way.apart;
    forgets = forgets;
    place = way.place;
    visits = length places;
    are_recorded = way.are_recorded;
    are_seen = way.under_way.seen;
    is_put = out begun (text_shown w asked (left_of list way.recorded)) way.under_way.is_put;
  }
  all_put (Err fault) ok way out = absurd (let z : false ≡ true = ok in cc)

-- ---- the beginning

pub start : (w : Writing) (asked : Asked) (forgets : Bool) (list : List PlainEntry) (put : Option (List ℕ)) (listing : Listing) → AreSeen asked forgets list 0 0 listing.seen [] [] → listing.pending.bytes.items ≡ []
    → IsUnderWay w asked forgets list 0 0 put put listing [] []
start w asked forgets list put listing seen nothing =
    record { seen = seen; is_put = subst (IsPut put put listing.pending) (sym (nothing_shown w asked)) (none_put put listing.pending nothing) }

-- nothing was written of any line
pub none_first : (w : Writing) (s : Sides) (k : Stock) (asked : Asked) (list : List PlainEntry) (lengths places : List ℕ) (put : Option (List ℕ)) → AreShortest s.sender s.sends lengths → IsStockOf s lengths k
    → (first : List Row) × AreFirstLines s asked list places first × OccursPut NoMemory put put (text_shown w asked first)
none_first w s k asked list lengths places put shortest is_stock = (
  [],
  record {
    front = [];
    back = places;
    recorded = [];
    apart = [];
    more = [];
    parts = refl;
    are_recorded = record { lengths = lengths; stock = k; following = most_checked_together; are_shortest = shortest; is_stock = is_stock; each = (refl, refl, refl) };
    left_are = refl;
  },
  subst (Appends put put) (sym (nothing_shown w asked)) (Appends-nil put),
)
