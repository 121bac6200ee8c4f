use Rattle.std.proofs.Common.{◌≡◌, ◌+◌, ℕ, List, None, Some, length, drop, refl, sym, ap, subst, ◌∙◌, arith}
use Rattle.std.proofs.Math.Logic.{∥∥₁_elim}
use Rattle.std.proofs.lemmas.List.{length-drop}
use Rattle.std.proofs.lemmas.Option.{same_Some, slice_get-get_or, slice_get_within}
use Rattle.std.specs.Coded.{le_prop}
use Rattle.std.proofs.lemmas.Bool.{eq-eqb}
use Rattle.std.specs.Prelude.{◌<◌, ◌==◌, if◌then◌else◌, Bool, set, slice_get}
use Rattle.dia_book.specs.declared.DRule.{DRule}
use Rattle.dia_book.specs.declared.RuleKind.TheVariants.{Fixed}
use Rattle.dia_check.specs.declared.open_levels.OpenLevels.{OpenLevels}
use Rattle.dia_check.specs.declared.open_levels.tally.Met.{Met}
use Rattle.dia_check.specs.OpenLevels.{AreMet}
use Rattle.dia_check.specs.Tallies.{IsRecorded, count_in}
use Rattle.dia_check.proofs.KeysByCounts.{rule_within, count_few, too_many_first, met_now, is_max_of, no_max_of}
use Rattle.dia_check.proofs.KeptLevels.{own_counted, own_low, recorded_further, met_again, met_further, done_further}
use Rattle.dia_check.proofs.Tallies.{below_prop, found_count, get_from, rising_prop, set_from, recorded_more}
use Rattle.dia_check.proofs.open_levels.OpenLevels.count.Goals as goal

abbrev no_rule : DRule
no_rule = record { kind = Fixed; key = None; min = 0; max = None }

-- what is read at the place is what is recorded of the rule
is_recorded : (old new : List Met) (base many rule place : ℕ) (met : Met) (t : IsRecorded old new base many rule place) → slice_get new place ≡ Some met
    → (slice_get (drop base new) t.following ≡ Some met) × (met.rule ≡ rule) × (count_in (drop base new) rule ≡ met.count)
is_recorded old new base many rule place met t read =
    let at = get_from new base t.following ∙ ap (λ (n : ℕ). slice_get new n) (sym t.is_place) ∙ read in
    let same : met.rule ≡ rule = ap (λ (m : Met). m.rule) (same_Some met t.recorded (sym at ∙ t.at)) ∙ t.same in
    (at, same, found_count (drop base new) rule t.following met t.place_of at same)

recorded_within : (old new : List Met) (base many rule place : ℕ) → IsRecorded old new base many rule place → place < length new
recorded_within old new base many rule place t =
    let lt = slice_get_within (drop base new) t.following t.recorded t.at in let size = length-drop base new in omega (arith, lt, size, t.is_place)

pub recorded_at-place-requires : goal.recorded_at-place-requires
recorded_at-place-requires c =
    let self = c.args.self.now in
    let rules = c.args.rules.now in
    record {
      low = ∥∥₁_elim c.requires.led le_prop (λ x. let (defs, outer, level, now, same, few, led) = x in own_low defs self outer level now);
      rising = ∥∥₁_elim c.requires.led (rising_prop 0 _) (λ x. let (defs, outer, level, now, same, few, led) = x in (own_counted defs self outer level rules _ now same refl).rising);
      below = ∥∥₁_elim c.requires.led (below_prop _ _) (λ x. let (defs, outer, level, now, same, few, led) = x in (own_counted defs self outer level rules _ now same refl).below);
      one = ∥∥₁_elim c.requires.led le_prop (λ x. let (defs, outer, level, now, same, few, led) = x in
          (rule_within rules c.requires.rules level.keys c.args.key self.innermost _ (own_counted defs self outer level rules _ now same refl) c.args.run _ led.0 c.args.rule refl).0);
      few = c.requires.rules.few;
      room = ∥∥₁_elim c.requires.led le_prop (λ x. let (defs, outer, level, now, same, few, led) = x in let own = now.room in let many = ap length same in omega (arith, own, many));
    }

pub read-met-requires : goal.read-met-requires
read-met-requires c =
    let within = recorded_within _ _ _ _ _ _ c.recorded_at-place.ensures.recorded in omega (arith, within, c.recorded_at-place.new.tallies.ok.0)

pub write-requires : goal.write-requires
write-requires c =
    let within = recorded_within _ _ _ _ _ _ c.recorded_at-place.ensures.recorded in omega (arith, within, c.recorded_at-place.new.tallies.ok.0)

pub bounds-rules-rule : goal.bounds-rules-rule
bounds-rules-rule c = ∥∥₁_elim c.requires.led le_prop (λ x. let (defs, outer, level, now, same, few, led) = x in
    (rule_within c.args.rules.now c.requires.rules level.keys c.args.key c.args.self.now.innermost _ (own_counted defs c.args.self.now outer level c.args.rules.now _ now same refl) c.args.run _ led.0 c.args.rule refl).0)

pub offset_bounds-rules-rule : goal.offset_bounds-rules-rule
offset_bounds-rules-rule c =
    let within : c.args.rule < 1024 = ∥∥₁_elim c.requires.led le_prop (λ x. let (defs, outer, level, now, same, few, led) = x in
    (rule_within c.args.rules.now c.requires.rules level.keys c.args.key c.args.self.now.innermost _ (own_counted defs c.args.self.now outer level c.args.rules.now _ now same refl) c.args.run _ led.0 c.args.rule refl).1) in
    omega (arith, within)

pub overflow_add-met : goal.overflow_add-met
overflow_add-met c =
    let t = c.recorded_at-place.ensures.recorded in
    let read = is_recorded _ _ _ _ _ _ c.read-met.result t c.read-met.ensures in
    let few : count_in (drop c.args.self.now.innermost.base c.args.self.now.tallies.items) c.args.rule < 4294967295 = ∥∥₁_elim c.requires.led le_prop (λ x. let (defs, outer, level, now, same, few, led) = x in
    let counted = own_counted defs c.args.self.now outer level c.args.rules.now _ now same refl in
    let lt = (rule_within c.args.rules.now c.requires.rules level.keys c.args.key c.args.self.now.innermost _ counted c.args.run _ led.0 c.args.rule refl).0 in
    let most = count_few c.args.rules.now c.requires.rules level.keys c.args.key c.args.self.now.innermost _ counted c.args.run _ led.0 c.args.rule _ (slice_get-get_or c.args.rules.now c.args.rule no_rule lt) in
    omega (arith, few, most)) in
    let same = t.counts c.args.rule in
    omega (arith, few, same, read.2)

pub returns-then-eq : goal.returns-then-eq
returns-then-eq c defs outer level now same led =
    let self = c.args.self.now in
    let rules = c.args.rules.now in
    let t = c.recorded_at-place.ensures.recorded in
    let mid : OpenLevels = record { innermost = self.innermost; outer = self.outer; tallies = c.recorded_at-place.new.tallies } in
    let next = recorded_further defs self mid outer level rules c.args.rule c.recorded_at-place.result now same t refl refl c.recorded_at-place.ensures.capacity in
    let before = own_counted defs self outer level rules _ now same refl in
    let counted = own_counted defs mid outer level rules _ next same refl in
    let lt = (rule_within rules c.requires.rules level.keys c.args.key self.innermost _ counted c.args.run _ led.0 c.args.rule refl).0 in
    let read = is_recorded _ _ _ _ _ _ c.read-met.result t c.read-met.ensures in
    rw c.avp.ensures (too_many_first rules c.requires.rules level.keys c.args.key self.innermost _ counted c.args.run _ led.0
    (met_again rules level.keys self.innermost _ _ self.innermost.run c.args.run before counted led.1) c.args.rule refl _
    (slice_get-get_or rules c.args.rule _ lt) (is_max_of _ _ c.if-eq.ensures ∙ ap (λ (n : ℕ). Some n) (sym read.2)))

pub returns-then-rule-self : goal.returns-then-rule-self
returns-then-rule-self c defs outer level now same led =
    let self = c.args.self.now in
    let rules = c.args.rules.now in
    let t = c.recorded_at-place.ensures.recorded in
    let tallies = c.recorded_at-place.new.tallies in
    let mid : OpenLevels = record { innermost = self.innermost; outer = self.outer; tallies = tallies } in
    let after : OpenLevels = record { innermost = record self.innermost { run = c.args.run; done = self.innermost.done }; outer = self.outer; tallies = c.write.new.tallies } in
    let next = recorded_further defs self mid outer level rules c.args.rule c.recorded_at-place.result now same t refl refl c.recorded_at-place.ensures.capacity in
    let before = own_counted defs self outer level rules _ now same refl in
    let counted = own_counted defs mid outer level rules _ next same refl in
    let lt = (rule_within rules c.requires.rules level.keys c.args.key self.innermost _ counted c.args.run _ led.0 c.args.rule refl).0 in
    let read = is_recorded _ _ _ _ _ _ c.read-met.result t c.read-met.ensures in
    let m : Met = record { rule = c.read-met.result.rule; count = c.read-met.result.count + 1 } in
    let one = recorded_more (length rules) 1 c.args.rule (drop self.innermost.base tallies.items) counted.rising counted.below m read.1 lt t.following c.read-met.result t.place_of read.0 read.1
    (ap (λ (n : ℕ). n + 1) (sym read.2)) in
    let met = met_now rules c.requires.rules level.keys c.args.key self.innermost _ counted c.args.run _ led.0
    (met_again rules level.keys self.innermost _ _ self.innermost.run c.args.run before counted led.1) c.args.rule refl _
    (slice_get-get_or rules c.args.rule no_rule lt) (set (drop self.innermost.base tallies.items) t.following m) one
    (λ e. no_max_of _ _ c.if-eq.ensures (e ∙ ap (λ (n : ℕ). Some n) read.2)) in
    let low = own_low defs mid outer level next in (
      met.none_wrong,
      met_further defs mid after outer level rules c.args.key c.args.run self.innermost.done (set (drop self.innermost.base tallies.items) t.following m) next same
          met.counted refl refl
          (c.write.ensures.items ∙ ap (λ (n : ℕ). set tallies.items n m) t.is_place ∙ set_from tallies.items self.innermost.base t.following m low)
          (omega (arith, c.write.ensures.capacity)),
    )

pub returns : goal.returns
returns c defs outer level now same led =
    let self = c.args.self.now in
    let rules = c.args.rules.now in
    let t = c.recorded_at-place.ensures.recorded in
    let tallies = c.recorded_at-place.new.tallies in
    let mid : OpenLevels = record { innermost = self.innermost; outer = self.outer; tallies = tallies } in
    let after : OpenLevels = record { innermost = record self.innermost { run = c.args.run; done = c.met_up_to-self.result }; outer = self.outer; tallies = c.write.new.tallies } in
    let next = recorded_further defs self mid outer level rules c.args.rule c.recorded_at-place.result now same t refl refl c.recorded_at-place.ensures.capacity in
    let before = own_counted defs self outer level rules _ now same refl in
    let counted = own_counted defs mid outer level rules _ next same refl in
    let lt = (rule_within rules c.requires.rules level.keys c.args.key self.innermost _ counted c.args.run _ led.0 c.args.rule refl).0 in
    let read = is_recorded _ _ _ _ _ _ c.read-met.result t c.read-met.ensures in
    let m : Met = record { rule = c.read-met.result.rule; count = c.read-met.result.count + 1 } in
    let one = recorded_more (length rules) 1 c.args.rule (drop self.innermost.base tallies.items) counted.rising counted.below m read.1 lt t.following c.read-met.result t.place_of read.0 read.1
    (ap (λ (n : ℕ). n + 1) (sym read.2)) in
    let met = met_now rules c.requires.rules level.keys c.args.key self.innermost _ counted c.args.run _ led.0
    (met_again rules level.keys self.innermost _ _ self.innermost.run c.args.run before counted led.1) c.args.rule refl _
    (slice_get-get_or rules c.args.rule no_rule lt) (set (drop self.innermost.base tallies.items) t.following m) one
    (λ e. no_max_of _ _ c.if-eq.ensures (e ∙ ap (λ (n : ℕ). Some n) read.2)) in
    let counts : count_in (set (drop self.innermost.base tallies.items) t.following m) c.args.rule ≡ m.count =
    let more = one.counts c.args.rule in
    let once = ap (λ (b : Bool). count_in (drop self.innermost.base tallies.items) c.args.rule + (if b then 1 else 0)) (eq-eqb c.args.rule c.args.rule refl) in
    omega (arith, more, once, read.2) in
    let low = own_low defs mid outer level next in (
      met.none_wrong,
      met_further defs mid after outer level rules c.args.key c.args.run c.met_up_to-self.result (set (drop self.innermost.base tallies.items) t.following m) next same
          (done_further rules _ (record self.innermost { run = c.args.run }) _ c.met_up_to-self.result met.counted c.met_up_to-self.ensures.within
          (c.met_up_to-self.ensures.met _ counts (subst (λ (n : ℕ). AreMet rules (set (drop self.innermost.base tallies.items) t.following m) 0 n) (sym c.if-rule-self.false) met.counted.done))) refl refl
          (c.write.ensures.items ∙ ap (λ (n : ℕ). set tallies.items n m) t.is_place ∙ set_from tallies.items self.innermost.base t.following m low)
          (omega (arith, c.write.ensures.capacity)),
    )

pub met_up_to-self-requires-clause-within : goal.met_up_to-self-requires-clause-within
met_up_to-self-requires-clause-within c = ∥∥₁_elim c.requires.led le_prop (λ x. let (defs, outer, level, now, same, few, led) = x in
    (rule_within c.args.rules.now c.requires.rules level.keys c.args.key c.args.self.now.innermost _ (own_counted defs c.args.self.now outer level c.args.rules.now _ now same refl) c.args.run _ led.0 c.args.rule refl).0)
