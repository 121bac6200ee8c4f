-- Of two dictionaries and a command there is one list of sites, and one of lines.
use Rattle.std.proofs.Common.{◌≡◌, ℕ, zero, suc, ◌<◌, List, [], ◌∷◌, map, length, sym, ap, subst, ◌∙◌, refl, arith}
use Rattle.std.specs.Prelude.{All}
use Rattle.std.proofs.lemmas.Option.{same_Some}
use Rattle.dia_wire.specs.declared.Key.{Key}
use Rattle.dia_book.specs.Dictionary.{Dictionary, PlainDefinition}
use Rattle.dia_terms.specs.declared.Sends.{Sends}
use Rattle.dia_terms.specs.declared.Unknown.{Unknown}
use Rattle.dia_breaking_sites.specs.Selection.{max_body}
use Rattle.dia_breaking_shortest.specs.Lengths.{entry_length}
use Rattle.dia_breaking_shortest.proofs.OneSolution.{lengths_are_one}
use Rattle.dia_breaking.specs.declared.exits.Outlook.{Outlook}
use Rattle.dia_breaking.specs.declared.heads.Head.{Head}
use Rattle.dia_breaking.specs.declared.keys.Own.{Own}
use Rattle.dia_breaking.specs.declared.keys.Recording.{Recording}
use Rattle.dia_breaking.specs.declared.line.Site.{Site}
use Rattle.dia_breaking.specs.declared.own_breaks.OwnBreaks.{OwnBreaks}
use Rattle.dia_breaking.specs.declared.start.Start.{Start}
use Rattle.dia_breaking.specs.Exits.{AreOutlooks}
use Rattle.dia_breaking.specs.Headers.{HasHead, head_in}
use Rattle.dia_breaking.specs.Lengths.{AreEntryLengths, AreExactlyOthers, listed_length, costs_by}
use Rattle.dia_breaking.specs.Listing.{Recorded, Basis, Listed, IsListingOf, basis_of, lines_in}
use Rattle.dia_breaking.specs.Nodes.{node_in}
use Rattle.dia_breaking.specs.OwnBreaks.{AreOwnBreaks}
use Rattle.dia_breaking.specs.Recording.{IsExactRecording}
use Rattle.dia_breaking.specs.TheLines.{AreListedFor, HasLevelLines, IsStartOf}
use Rattle.dia_breaking.specs.Sides.{sides}
use Rattle.dia_breaking.proofs.OneListing.{one_listing}
use Rattle.dia_breaking.proofs.OneOwn.{IsListedAlike, all_alike, listing_by}
use Rattle.dia_breaking.proofs.OneSolution.{one_list_of_others, one_recording}
use Rattle.dia_breaking.proofs.OneStart.{AreSame, one_list_of_outlooks, one_start}

-- ---- the lengths of entries

same_lengths : (xs ys : List ℕ) → length xs ≡ length ys → ((e : ℕ) → e < length xs → entry_length xs e ≡ entry_length ys e) → xs ≡ ys
same_lengths [] [] size each = refl
same_lengths [] (y ∷ ys) size each = absurd (omega (arith, size))
same_lengths (x ∷ xs) [] size each = absurd (omega (arith, size))
same_lengths (x ∷ xs) (y ∷ ys) size each =
    let first : x ≡ y = each zero (omega arith) in
    let rest : xs ≡ ys = same_lengths xs ys (omega (arith, size)) (λ e lt. each (suc e) (omega (arith, lt))) in
    λ i. first i ∷ rest i

pub one_list_of_lengths : (d : Dictionary) (least xs ys : List ℕ) → AreEntryLengths d least xs → AreEntryLengths d least ys → xs ≡ ys
one_list_of_lengths d least xs ys is are =
    let size : length xs ≡ length d.entries = is.0 in
    same_lengths xs ys (is.0 ∙ sym are.0) (λ e lt.
    let within : e < length d.entries = omega (arith, lt, size) in
    is.1 e within ∙ sym (are.1 e within))

-- ---- all that the lines are made of, with these lengths and these keys

record IsMadeOf (listed : Listed) (da db : Dictionary) (who : Sends) (u : Unknown) (c : ℕ) (sites : List Site) (recorded : List Recorded) (lengths : List ℕ) (others : List Key) : Type 0 where
  pub recording : Recording
  pub outlooks : List Outlook
  pub own : List OwnBreaks
  pub start : Start
  pub is_recording : IsExactRecording (sides da db who u) recording
  pub are_outlooks : AreOutlooks da db recording (costs_by da who lengths others) outlooks
  pub have_lines : All (HasLevelLines da db (costs_by da who lengths others)) outlooks
  pub are_own : AreOwnBreaks (sides da db who u) (listed_length da who lengths) recording.own.items own
  pub head_is : HasHead da c start.head
  pub is_start : IsStartOf da db recording (costs_by da who lengths others) c start
  pub is_listing : IsListingOf listed db (basis_of start own outlooks) sites recorded

made_of : (listed : Listed) (da db : Dictionary) (who : Sends) (u : Unknown) (c : ℕ) (sites : List Site) (recorded : List Recorded) (all : AreListedFor listed (sides da db who u) c sites recorded)
    → IsMadeOf listed da db who u c sites recorded all.made.lengths all.made.others
made_of listed da db who u c sites recorded all = record {
  recording = all.made.recording;
  outlooks = all.made.outlooks;
  own = all.made.own;
  start = all.start;
  is_recording = all.facts.is_recording;
  are_outlooks = all.facts.are_outlooks;
  have_lines = all.facts.have_lines;
  are_own = all.facts.are_own;
  head_is = all.head_is;
  is_start = all.is_start;
  is_listing = all.is_listing;
}

one_head : (da : Dictionary) (c : ℕ) (x y : Head) → HasHead da c x → HasHead da c y → x ≡ y
one_head da c x y (d, at, is) (e, here, are) = same_Some x y (sym is ∙ ap (λ (z : PlainDefinition). head_in z.head) (same_Some d e (sym at ∙ here)) ∙ are)

module _ (listed : Listed) (listed_alike : IsListedAlike listed) (da db : Dictionary) (who : Sends) (u : Unknown) (c : ℕ) where
  same_basis : (s r : Start) (own : List OwnBreaks) (xs ys : List Outlook) → AreSame s r
      → (map node_in xs ≡ map node_in ys) × (map lines_in xs ≡ map lines_in ys) → basis_of s own xs ≡ basis_of r own ys
  same_basis s r own xs ys same both = λ i. record {
    head = same.head i;
    base = same.base i;
    readings = same.readings i;
    levels = same.levels i;
    graph = record { nodes = both.0 i; start = same.exits i; room = max_body };
    own = own;
    groups = both.1 i;
  }

  module _ (lengths : List ℕ) (others : List Key) (sites more : List Site) (recorded lines : List Recorded) where
    one_making : IsMadeOf listed da db who u c sites recorded lengths others → IsMadeOf listed da db who u c more lines lengths others → (sites ≡ more) × (recorded ≡ lines)
    one_making is are =
        let floor = listed_length da who lengths in
        let recording = one_recording da db who u is.recording are.recording is.is_recording are.is_recording in
        let keys = ap (λ (all : List Own). map (λ (own : Own). own.key) all) recording.0 in
        let outlooks = one_list_of_outlooks (costs_by da who lengths others) is.recording are.recording recording.1 da db is.outlooks are.outlooks
        (is.are_outlooks.0 ∙ keys ∙ sym are.are_outlooks.0) is.are_outlooks.1 are.are_outlooks.1 is.have_lines are.have_lines in
        let own = all_alike da db who u floor are.own is.own (are.are_own.keys ∙ sym keys ∙ sym is.are_own.keys) are.are_own.each is.are_own.each in
        let head = one_head da c is.start.head are.start.head is.head_is are.head_is in
        let start = one_start da db (costs_by da who lengths others) is.recording are.recording recording.1 c is.start are.start head is.is_start are.is_start in
        let basis = same_basis is.start are.start is.own is.outlooks are.outlooks start outlooks in
        let by_own = listing_by listed listed_alike db (basis_of are.start are.own are.outlooks) is.own more lines own are.is_listing in
        let moved = subst (λ (basis : Basis). IsListingOf listed db basis more lines) (sym basis) by_own in
        one_listing listed db (basis_of is.start is.own is.outlooks) sites more recorded lines is.is_listing moved

  pub one_list_of : (sites more : List Site) (recorded lines : List Recorded) → AreListedFor listed (sides da db who u) c sites recorded → AreListedFor listed (sides da db who u) c more lines → (sites ≡ more) × (recorded ≡ lines)
  one_list_of sites more recorded lines is are =
      let least = lengths_are_one da who are.facts.least is.facts.least are.facts.are_least is.facts.are_least in
      let by_least = subst (λ (least : List ℕ). AreEntryLengths da least are.made.lengths) least are.facts.are_lengths in
      let lengths : are.made.lengths ≡ is.made.lengths = one_list_of_lengths da is.facts.least are.made.lengths is.made.lengths by_least is.facts.are_lengths in
      let by_lengths = subst (λ (all : List ℕ). AreExactlyOthers da db who all are.made.others) lengths are.facts.are_others in
      let keys : are.made.others ≡ is.made.others = one_list_of_others da db who is.made.lengths are.made.others is.made.others by_lengths is.facts.are_others in
      let made = subst (λ (all : List ℕ). IsMadeOf listed da db who u c more lines all are.made.others) lengths (made_of listed da db who u c more lines are) in
      let moved = subst (λ (all : List Key). IsMadeOf listed da db who u c more lines is.made.lengths all) keys made in
      one_making is.made.lengths is.made.others sites more recorded lines (made_of listed da db who u c sites recorded is) moved
