-- What the reader's end says of the text that it began with.
use Rattle.std.proofs.Common.{◌≡◌, ℕ, ◌+◌, ◌≤◌, Bool, true, false, List, length, map, take, drop, refl, sym, ap, subst, ◌∙◌}
use Rattle.std.proofs.lemmas.List.{take-map}
use Rattle.dia_ccf.specs.declared.fault.CcfFault.{CcfFault}
use Rattle.dia_ccf.specs.declared.fault.CcfFault.TheVariants as faults
use Rattle.dia_ccf.specs.declared.reading.refusal.Refusal.{Refusal}
use Rattle.dia_ccf.specs.declared.reading.refusal.Refusal.TheVariants as refusal
use Rattle.dia_ccf.specs.declared.reading.Reader.{Reader}
use Rattle.dia_ccf.specs.declared.refused.Refused.{Refused}
use Rattle.dia_ccf.specs.declared.refused.Refused.TheVariants as refuseds
use Rattle.dia_ccf.specs.declared.refused.Misfit.{Misfit}
use Rattle.dia_ccf.specs.declared.wanted.Wanted.TheVariants.{Item}
use Rattle.dia_ccf.specs.Limits.{max_text}
use Rattle.dia_ccf.specs.Plain.{PlainSource}
use Rattle.dia_ccf.specs.Tokens.{Token, placed_tokens, tokens, line_at}
use Rattle.dia_ccf.specs.Grammar.{Derives}
use Rattle.dia_ccf.specs.Faults.{IsFault}
use Rattle.dia_ccf.specs.Refusals.{IsWanted, IsMisfit, IsRefused, fault_of}
use Rattle.dia_ccf.specs.Wanting.{after_all}
use Rattle.dia_ccf.specs.LexerTokens.{capped, left_from}
use Rattle.dia_ccf.specs.Machine.{Between, Outcome, Stops, outcome}
use Rattle.dia_ccf.specs.ReaderFunctions.{left, Course, course, StopsAt, IsRecordedAt, recorded_at, nothing_read}
use Rattle.dia_ccf.proofs.WantedAfter.{after_all-capped}
use Rattle.dia_ccf.proofs.ReaderFindings.{all_left, never, place_is, occurs, syntax_recorded, number_recorded, limit_recorded}

abbrev misfit_of : Reader → CcfFault → Misfit
misfit_of reader fault = record { fault = fault; at = reader.at; wanted = reader.wanted; last = reader.last; earlier = reader.earlier }

abbrev is_memory : CcfFault → Bool
is_memory faults.NoMemory = true
is_memory fault = false

-- the tokens as the reader sees them
seen_tokens : (text : List ℕ) → left_from text 0 ≡ map capped (tokens text)
seen_tokens text = all_left text 0 refl

wants_tokens : (text : List ℕ) (k : ℕ) → after_all Item (take k (left_from text 0)) ≡ after_all Item (take k (tokens text))
wants_tokens text k =
    ap (λ (ts : List Token). after_all Item (take k ts)) (seen_tokens text)
    ∙ ap (after_all Item) (take-map capped k (tokens text)) ∙ after_all-capped Item (take k (tokens text))

begins_whole : (reader : Reader) (text : List ℕ) → reader.text.now ≡ text → reader.taken ≡ 0 → left reader ≡ map capped (tokens text)
begins_whole reader text same none =
    all_left reader.text.now reader.at (ap (λ (n : ℕ). drop n (placed_tokens reader.text.now)) (sym none) ∙ reader.counted) ∙ ap (λ (bytes : List ℕ). map capped (tokens bytes)) same

-- where the reader's course ends so does the machine's
pub outcome_of : (reader : Reader) (text other : List ℕ) (o : Outcome) → reader.text.now ≡ text → reader.taken ≡ 0
    → course (nothing_read, Between) reader ≡ (other, o) → (other ≡ text) × (outcome (nothing_read, Between) (map capped (tokens text)) ≡ o)
outcome_of reader text other o same none h =
    (sym (ap (λ (c : Course). c.0) h) ∙ same, ap (outcome (nothing_read, Between)) (sym (begins_whole reader text same none)) ∙ ap (λ (c : Course). c.1) h)

-- a text that the machine does not read has no source
never_derived : (reader end : Reader) (text : List ℕ) (k : Refusal) (s : PlainSource) → reader.text.now ≡ text → reader.taken ≡ 0
    → course (nothing_read, Between) reader ≡ (end.text.now, Stops k (left end)) → Derives (tokens text) s → ⊥
never_derived reader end text k s same none h d = never text s k (left end) (outcome_of reader text end.text.now (Stops k (left end)) same none h).1 d

pub only_memory : (reader end : Reader) (text : List ℕ) (k : Refusal) (refused : Refused) (s : PlainSource) → reader.text.now ≡ text → reader.taken ≡ 0
    → StopsAt (course (nothing_read, Between) reader) k end → IsRecordedAt k end refused → Derives (tokens text) s → refused ≡ refuseds.NoMemory
only_memory reader end text refusal.NoMemory refused s same none h recorded d = recorded
only_memory reader end text refusal.Syntax refused s same none h recorded d = absurd (never_derived reader end text refusal.Syntax s same none h d)
only_memory reader end text refusal.Number refused s same none h recorded d = absurd (never_derived reader end text refusal.Number s same none h d)
only_memory reader end text refusal.Limit refused s same none h recorded d = absurd (never_derived reader end text refusal.Limit s same none h d)

no_memory : (f : CcfFault) → is_memory f ≡ false → f ≡ faults.NoMemory → ⊥
no_memory f h e = absurd (let both : true ≡ false = ap is_memory (sym e) ∙ h in cc)

module _ (reader end : Reader) (text : List ℕ) (same : reader.text.now ≡ text) (none : reader.taken ≡ 0) (small : length text ≤ max_text) where
  -- the machine's end over the text that the reader ended with
  stopped_at : (k : Refusal) → course (nothing_read, Between) reader ≡ (end.text.now, Stops k (left end))
      → (end.text.now ≡ text) × (outcome (nothing_read, Between) (map capped (tokens end.text.now)) ≡ Stops k (left end))
  stopped_at k h =
      let o = outcome_of reader text end.text.now (Stops k (left end)) same none h in
      (o.0, ap (λ (bytes : List ℕ). outcome (nothing_read, Between) (map capped (tokens bytes))) o.0 ∙ o.1)

  misfit : (k : Refusal) (f : CcfFault) → is_memory f ≡ false → outcome (nothing_read, Between) (map capped (tokens end.text.now)) ≡ Stops k (left end)
      → IsFault end.text.now f → IsMisfit end.text.now (misfit_of end f)
  misfit k f other stops recorded =
      let here = occurs end.text.now end.taken end.at end.counted end.reached end.placed k stops in
      record {
        token = end.taken;
        first = here.first;
        recorded = recorded;
        no_memory = no_memory f other;
        place = place_is end.text.now end.taken end.at end.counted end.reached end.placed;
        last = end.before;
        earlier = end.before_that;
        wanted = subst (IsWanted (take end.taken (tokens end.text.now))) (sym (end.wants ∙ wants_tokens end.text.now end.taken)) here.wanted;
      }

  recorded_text : (f : CcfFault) (refused : Refused) → end.text.now ≡ text → refused ≡ recorded_at end f → IsMisfit end.text.now (misfit_of end f) → IsRefused text refused
  recorded_text f refused is recorded h = subst (IsRefused text) (sym recorded) (small, subst (λ (bytes : List ℕ). IsMisfit bytes (misfit_of end f)) is h)

  pub is_refused : (k : Refusal) (refused : Refused) → StopsAt (course (nothing_read, Between) reader) k end → IsRecordedAt k end refused → IsRefused text refused
  is_refused refusal.Syntax refused h recorded =
      let o = stopped_at refusal.Syntax h in
      let f = faults.Syntax (end.taken + 1) (line_at end.text.now end.at) in
      recorded_text f refused o.0 recorded (misfit refusal.Syntax f refl o.1 (syntax_recorded end.text.now end.taken end.at end.counted end.reached end.placed o.1))
  is_refused refusal.Number refused h recorded =
      let o = stopped_at refusal.Number h in
      let f = faults.Number (line_at end.text.now end.at) in
      recorded_text f refused o.0 recorded (misfit refusal.Number f refl o.1 (number_recorded end.text.now end.taken end.at end.counted end.reached end.placed o.1))
  is_refused refusal.Limit refused h recorded =
      let o = stopped_at refusal.Limit h in
      let f = faults.Limit (line_at end.text.now end.at) in
      recorded_text f refused o.0 recorded (misfit refusal.Limit f refl o.1 (limit_recorded end.text.now end.taken end.at end.counted end.reached end.placed o.1))
  is_refused refusal.NoMemory refused h recorded = subst (IsRefused text) (sym recorded) tt

-- only an allocation failure is reported as `NoMemory`
pub only_no_memory : (refused : Refused) → refused ≡ refuseds.NoMemory → fault_of refused ≡ faults.NoMemory
only_no_memory refused h = ap fault_of h
