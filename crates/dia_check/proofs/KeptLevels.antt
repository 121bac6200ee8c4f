-- The levels that are recorded, where one is opened, met further, or ended.
use Rattle.std.proofs.Common.{◌≡◌, ◌≢◌, Bool, true, false, nat_lt, ℕ, suc, ◌+◌, ◌-◌, ◌<◌, ◌≤◌, List, [], ◌∷◌, ◌++◌, length, take, drop, Some, refl, sym, ap, subst, ◌∙◌, append_assoc, arith}
use Rattle.std.specs.Prelude.{slice_get, ◌==◌, vec_capacity}
use Rattle.std.proofs.lemmas.Bool.{both_ways, eq-eqb, eqb-true, ltb-true, ltb-false}
use Rattle.std.proofs.Math.Seq.{take-append_seam, drop-append_seam}
use Rattle.std.proofs.lemmas.List.{append-nil, length-append, take-append-drop, take_all, length-drop}
use Rattle.dia_wire.specs.declared.Key.{Key}
use Rattle.dia_book.specs.declared.DRule.{DRule}
use Rattle.dia_book.specs.Dictionary.{PlainDefinition}
use Rattle.dia_book.specs.Shapes.{IsFirstWanted}
use Rattle.dia_check.specs.declared.open_levels.OpenLevel.{OpenLevel}
use Rattle.dia_check.specs.declared.open_levels.OpenLevels.{OpenLevels}
use Rattle.dia_check.specs.declared.open_levels.tally.Met.{Met}
use Rattle.dia_check.specs.Tallies.{count_in, unmet, AreBelow, IsRecorded}
use Rattle.dia_valid.specs.Valid.{fixed_rules}
use Rattle.dia_check.specs.OpenLevels.{AreMet, IsFirstUnmet, IsMetAtEnd, IsCounted, SoFar, begun, and_key, IsKept, AreKept, HasTallyRoom, HaveTallyRoom, AreOpen}
use Rattle.dia_check.specs.Faults.{IsFirstMissing}
use Rattle.std.proofs.lemmas.Option.{same_Some, slice_get_within}
use Rattle.dia_valid.proofs.RunsOfOneKeyMore.{at_start}
use Rattle.dia_check.proofs.FaultlessLevels.{met_none}
use Rattle.dia_check.proofs.Tallies.{unmet_rising, unmet_below, unmet_none}

-- ---- a level of which nothing was read

pub fresh : (rules : List DRule) (level : OpenLevel) (many : ℕ) → level.run ≡ 0 → many ≤ length rules → IsFirstWanted rules 0 level.done
    → IsCounted rules [] level (unmet 0 many)
fresh rules level many run le wanted = record {
  run = rw run (at_start (fixed_rules rules));
  rising = unmet_rising 0 many;
  below = unmet_below 0 many (length rules) (omega (arith, le));
  counted = λ i rule at. unmet_none 0 many i ∙ sym (met_none rules i rule);
  met_before = λ i rule from to at. absurd (omega (arith, run, to));
  done_within = wanted.within;
  done = λ i rule from to at. let none = wanted.none_before i rule from to at in omega (arith, none);
}

-- ---- a level more, and one less

kept_push : (defs : List PlainDefinition) (base : ℕ) (ks : List OpenLevel) (tallies : List Met) (ls : List SoFar) (k : OpenLevel) (mine : List Met) (l : SoFar)
    → AreKept defs base ks tallies ls → k.base ≡ base + length tallies → IsKept defs k mine l → AreKept defs base (ks ++ k ∷ []) (tallies ++ mine) (ls ++ l ∷ [])
kept_push defs base [] tallies [] k mine l none at kept =
    let here : k.base ≡ base = let e = ap length none in omega (arith, at, e) in
    (mine, [], ap (λ (t : List Met). t ++ mine) none ∙ sym (append-nil mine), here, kept, refl)
kept_push defs base [] tallies (m ∷ ls) k mine l none at kept = absurd none
kept_push defs base (q ∷ ks) tallies [] k mine l none at kept = absurd none
kept_push defs base (q ∷ ks) tallies (m ∷ ls) k mine l (own, rest, parts, here, is, more) at kept =
    let size = ap length parts ∙ length-append own rest in (
      own,
      rest ++ mine,
      ap (λ (t : List Met). t ++ mine) parts ∙ append_assoc own rest mine,
      here,
      is,
      kept_push defs (base + length own) ks rest ls k mine l more (omega (arith, at, size)) kept,
    )

record Popped (defs : List PlainDefinition) (base : ℕ) (ks : List OpenLevel) (k : OpenLevel) (tallies : List Met) (ls : List SoFar) : Type 0 where
  others : List SoFar
  next : SoFar
  before : List Met
  mine : List Met
  is : ls ≡ others ++ next ∷ []
  parts : tallies ≡ before ++ mine
  at : k.base ≡ base + length before
  kept : IsKept defs k mine next
  rest : AreKept defs base ks before others

kept_pop : (defs : List PlainDefinition) (base : ℕ) (ks : List OpenLevel) (k : OpenLevel) (tallies : List Met) (ls : List SoFar) → AreKept defs base (ks ++ k ∷ []) tallies ls
    → Popped defs base ks k tallies ls
kept_pop defs base [] k tallies [] h = absurd h
kept_pop defs base [] k tallies (l ∷ []) (mine, rest, parts, at, kept, none) = record {
  others = [];
  next = l;
  before = [];
  mine = mine;
  is = refl;
  parts = parts ∙ ap (λ (t : List Met). mine ++ t) none ∙ append-nil mine;
  at = omega (arith, at);
  kept = kept;
  rest = refl;
}
kept_pop defs base [] k tallies (l ∷ m ∷ ls) (mine, rest, parts, at, kept, none) = absurd none
kept_pop defs base (q ∷ ks) k tallies [] h = absurd h
kept_pop defs base (q ∷ ks) k tallies (l ∷ ls) (own, rest, parts, here, is, more) =
    let p = kept_pop defs (base + length own) ks k rest ls more in
    record {
      others = l ∷ p.others;
      next = p.next;
      before = own ++ p.before;
      mine = p.mine;
      is = ap (λ (t : List SoFar). l ∷ t) p.is;
      parts = parts ∙ ap (λ (t : List Met). own ++ t) p.parts ∙ sym (append_assoc own p.before p.mine);
      at = let e = length-append own p.before in omega (arith, e, p.at);
      kept = p.kept;
      rest = (own, p.before, refl, here, is, p.rest);
    }

-- ---- room for their tallies

room_more : (less more : ℕ) (ks : List OpenLevel) (ls : List SoFar) → less ≤ more → HaveTallyRoom less ks ls → HaveTallyRoom more ks ls
room_more less more [] [] le room = tt
room_more less more [] (l ∷ ls) le room = absurd room
room_more less more (k ∷ ks) [] le room = absurd room
room_more less more (k ∷ ks) (l ∷ ls) le (here, room) = (omega (arith, here, le), room_more less more ks ls le room)

room_push : (capacity : ℕ) (ks : List OpenLevel) (ls : List SoFar) (k : OpenLevel) (l : SoFar) → HaveTallyRoom capacity ks ls → HasTallyRoom capacity k l
    → HaveTallyRoom capacity (ks ++ k ∷ []) (ls ++ l ∷ [])
room_push capacity [] [] k l room own = (own, tt)
room_push capacity [] (m ∷ ls) k l room own = absurd room
room_push capacity (q ∷ ks) [] k l room own = absurd room
room_push capacity (q ∷ ks) (m ∷ ls) k l (here, room) own = (here, room_push capacity ks ls k l room own)

room_pop : (capacity : ℕ) (ks : List OpenLevel) (ls : List SoFar) (k : OpenLevel) (l : SoFar) → HaveTallyRoom capacity (ks ++ k ∷ []) (ls ++ l ∷ [])
    → HaveTallyRoom capacity ks ls × HasTallyRoom capacity k l
room_pop capacity [] [] k l (own, none) = (tt, own)
room_pop capacity [] (m ∷ []) k l (own, none) = absurd none
room_pop capacity [] (m ∷ n ∷ ls) k l (own, none) = absurd none
room_pop capacity (q ∷ []) [] k l (own, none) = absurd none
room_pop capacity (q ∷ r ∷ ks) [] k l (own, none) = absurd none
room_pop capacity (q ∷ ks) (m ∷ ls) k l (here, room) = let rest = room_pop capacity ks ls k l room in ((here, rest.0), rest.1)

-- ---- the open levels

-- the tallies, up to the innermost level's and from there on
pub own_base : (defs : List PlainDefinition) (o : OpenLevels) (outer : List SoFar) (level : SoFar) (now : AreOpen defs o outer level)
    → length o.tallies.items ≡ o.innermost.base + length now.mine
own_base defs o outer level now = let parts = ap length now.parts ∙ length-append now.before now.mine in let base = now.base in omega (arith, parts, base)

pub tallies_before : (defs : List PlainDefinition) (o : OpenLevels) (outer : List SoFar) (level : SoFar) (now : AreOpen defs o outer level) → take o.innermost.base o.tallies.items ≡ now.before
tallies_before defs o outer level now =
    ap (λ (n : ℕ). take n o.tallies.items) now.base ∙ ap (λ (t : List Met). take (length now.before) t) now.parts ∙ take-append_seam now.before now.mine

pub own_tally : (defs : List PlainDefinition) (o : OpenLevels) (outer : List SoFar) (level : SoFar) (now : AreOpen defs o outer level) → drop o.innermost.base o.tallies.items ≡ now.mine
own_tally defs o outer level now =
    ap (λ (n : ℕ). drop n o.tallies.items) now.base ∙ ap (λ (t : List Met). drop (length now.before) t) now.parts ∙ drop-append_seam now.before now.mine

pub own_low : (defs : List PlainDefinition) (o : OpenLevels) (outer : List SoFar) (level : SoFar) (now : AreOpen defs o outer level) → o.innermost.base ≤ length o.tallies.items
own_low defs o outer level now = let size = own_base defs o outer level now in omega (arith, size)

-- the innermost level's tally, as a slice
pub own_slice : (o : OpenLevels) (tallies : List Met) → tallies ≡ o.tallies.items → take (length tallies - o.innermost.base) (drop o.innermost.base tallies) ≡ drop o.innermost.base o.tallies.items
own_slice o tallies e =
    let size = length-drop o.innermost.base tallies in
    take_all (length tallies - o.innermost.base) (drop o.innermost.base tallies) (omega (arith, size)) ∙ ap (λ (t : List Met). drop o.innermost.base t) e

pub own_counted : (defs : List PlainDefinition) (o : OpenLevels) (outer : List SoFar) (level : SoFar) (rules : List DRule) (tally : List Met) (now : AreOpen defs o outer level)
    → level.rules ≡ rules → tally ≡ drop o.innermost.base o.tallies.items → IsCounted rules level.keys o.innermost tally
own_counted defs o outer level rules tally now same e =
    subst (λ (t : List Met). IsCounted rules level.keys o.innermost t) (sym (e ∙ own_tally defs o outer level now))
    (subst (λ (rs : List DRule). IsCounted rs level.keys o.innermost now.mine) same now.innermost.counted)

-- a level is opened in the innermost one
pub opened : (defs : List PlainDefinition) (definition : PlainDefinition) (old new : OpenLevels) (outer : List SoFar) (level : SoFar) (rules : List DRule) (def end many done : ℕ) (now : AreOpen defs old outer level)
    → slice_get defs def ≡ Some definition → definition.rules ≡ rules → many ≤ length rules → IsFirstWanted rules 0 done
    → new.innermost ≡ record { def = def; end = end; base = length old.tallies.items; run = 0; done = done }
    → new.outer.items ≡ old.outer.items ++ old.innermost ∷ [] → new.tallies.items ≡ old.tallies.items ++ unmet 0 many
    → vec_capacity old.tallies ≤ vec_capacity new.tallies → length old.tallies.items + length rules ≤ vec_capacity new.tallies
    → AreOpen defs new (outer ++ level ∷ []) (begun rules end)
opened defs definition old new outer level rules def end many done o is_definition is_rules few wanted is_innermost is_outer is_tallies more enough = record {
  before = o.before ++ o.mine;
  mine = unmet 0 many;
  parts = is_tallies ∙ ap (λ (t : List Met). t ++ unmet 0 many) o.parts;
  are_outer = rw is_outer (kept_push defs 0 old.outer.items o.before outer old.innermost o.mine level o.are_outer (omega (arith, o.base)) o.innermost);
  base = ap (λ (l : OpenLevel). l.base) is_innermost ∙ ap length o.parts;
  innermost = rw is_innermost (record {
    definition = definition;
    is_definition = is_definition;
    is_rules = is_rules;
    is_end = refl;
    counted = fresh rules _ many refl few wanted;
  });
  outer_room = rw is_outer (room_push (vec_capacity new.tallies) old.outer.items outer old.innermost level
      (room_more (vec_capacity old.tallies) (vec_capacity new.tallies) old.outer.items outer more o.outer_room) (let own = o.room in omega (arith, own, more)));
  room = let at = ap (λ (l : OpenLevel). l.base) is_innermost in omega (arith, at, enough);
}

-- the body is opened
pub body_opened : (defs : List PlainDefinition) (definition : PlainDefinition) (new : OpenLevels) (rules : List DRule) (def end many done : ℕ)
    → slice_get defs def ≡ Some definition → definition.rules ≡ rules → many ≤ length rules → IsFirstWanted rules 0 done
    → new.innermost ≡ record { def = def; end = end; base = 0; run = 0; done = done }
    → new.outer.items ≡ [] → new.tallies.items ≡ unmet 0 many → length rules ≤ vec_capacity new.tallies
    → AreOpen defs new [] (begun rules end)
body_opened defs definition new rules def end many done is_definition is_rules few wanted is_innermost is_outer is_tallies enough = record {
  before = [];
  mine = unmet 0 many;
  parts = is_tallies;
  are_outer = rw is_outer refl;
  base = ap (λ (l : OpenLevel). l.base) is_innermost;
  innermost = rw is_innermost (record {
    definition = definition;
    is_definition = is_definition;
    is_rules = is_rules;
    is_end = refl;
    counted = fresh rules _ many refl few wanted;
  });
  outer_room = rw is_outer tt;
  room = let at = ap (λ (l : OpenLevel). l.base) is_innermost in omega (arith, at, enough);
}

-- the innermost level is ended
pub ended : (defs : List PlainDefinition) (old new : OpenLevels) (outer : List SoFar) (level : SoFar) → AreOpen defs old outer level
    → old.outer.items ≡ new.outer.items ++ new.innermost ∷ [] → new.tallies.items ≡ take old.innermost.base old.tallies.items → vec_capacity new.tallies ≡ vec_capacity old.tallies
    → (others : List SoFar) × (next : SoFar) × (outer ≡ others ++ next ∷ []) × AreOpen defs new others next
ended defs old new outer level o is_outer is_tallies is_capacity =
    let p = kept_pop defs 0 new.outer.items new.innermost o.before outer (subst (λ (t : List OpenLevel). AreKept defs 0 t o.before outer) is_outer o.are_outer) in
    let room : HaveTallyRoom (vec_capacity new.tallies) (new.outer.items ++ new.innermost ∷ []) (p.others ++ p.next ∷ []) = subst (λ (n : ℕ). HaveTallyRoom n (new.outer.items ++ new.innermost ∷ []) (p.others ++ p.next ∷ []))
    (sym is_capacity) (subst (λ (t : List SoFar). HaveTallyRoom (vec_capacity old.tallies) (new.outer.items ++ new.innermost ∷ []) t) p.is
    (subst (λ (t : List OpenLevel). HaveTallyRoom (vec_capacity old.tallies) t outer) is_outer o.outer_room)) in
    let rooms = room_pop (vec_capacity new.tallies) new.outer.items p.others new.innermost p.next room in (
      p.others,
      p.next,
      p.is,
      record {
        before = p.before;
        mine = p.mine;
        parts = is_tallies ∙ tallies_before defs old outer level o ∙ p.parts;
        are_outer = p.rest;
        base = omega (arith, p.at);
        innermost = p.kept;
        outer_room = rooms.0;
        room = rooms.1;
      },
    )

pub none_outer : (defs : List PlainDefinition) (base : ℕ) (tallies : List Met) (ls : List SoFar) → AreKept defs base [] tallies ls → ls ≡ []
none_outer defs base tallies [] h = refl
none_outer defs base tallies (l ∷ ls) h = absurd h

pub kept_many : (defs : List PlainDefinition) (base : ℕ) (ks : List OpenLevel) (tallies : List Met) (ls : List SoFar) → AreKept defs base ks tallies ls → length ks ≡ length ls
kept_many defs base [] tallies [] h = refl
kept_many defs base [] tallies (l ∷ ls) h = absurd h
kept_many defs base (k ∷ ks) tallies [] h = absurd h
kept_many defs base (k ∷ ks) tallies (l ∷ ls) (mine, rest, parts, at, kept, more) = ap (λ (n : ℕ). suc n) (kept_many defs (base + length mine) ks rest ls more)

-- one more rule of the innermost level is recorded, and it was not met
pub recorded_further : (defs : List PlainDefinition) (old new : OpenLevels) (outer : List SoFar) (level : SoFar) (rules : List DRule) (rule place : ℕ) (now : AreOpen defs old outer level) → level.rules ≡ rules
    → IsRecorded old.tallies.items new.tallies.items old.innermost.base (length rules) rule place → new.innermost ≡ old.innermost → new.outer.items ≡ old.outer.items
    → vec_capacity old.tallies ≤ vec_capacity new.tallies → AreOpen defs new outer level
recorded_further defs old new outer level rules rule place now same t is_innermost is_outer more = record {
  before = now.before;
  mine = drop old.innermost.base new.tallies.items;
  parts = sym (take-append-drop old.innermost.base new.tallies.items)
      ∙ ap (λ (f : List Met). f ++ drop old.innermost.base new.tallies.items) (t.front ∙ tallies_before defs old outer level now);
  are_outer = subst (λ (ks : List OpenLevel). AreKept defs 0 ks now.before outer) (sym is_outer) now.are_outer;
  base = ap (λ (i : OpenLevel). i.base) is_innermost ∙ now.base;
  innermost = subst (λ (i : OpenLevel). IsKept defs i (drop old.innermost.base new.tallies.items) level) (sym is_innermost) (record {
    definition = now.innermost.definition;
    is_definition = now.innermost.is_definition;
    is_rules = now.innermost.is_rules;
    is_end = now.innermost.is_end;
    counted = record {
      run = now.innermost.counted.run;
      rising = t.rising;
      below = subst (λ (rs : List DRule). AreBelow (length rs) (drop old.innermost.base new.tallies.items)) (sym same) t.below;
      counted = λ i r at. counts i ∙ now.innermost.counted.counted i r at;
      met_before = λ i r from to at. let enough = now.innermost.counted.met_before i r from to at in let e = counts i in omega (arith, enough, e);
      done_within = now.innermost.counted.done_within;
      done = λ i r from to at. let enough = now.innermost.counted.done i r from to at in let e = counts i in omega (arith, enough, e);
    };
  });
  outer_room = subst (λ (ks : List OpenLevel). HaveTallyRoom (vec_capacity new.tallies) ks outer) (sym is_outer)
      (room_more (vec_capacity old.tallies) (vec_capacity new.tallies) old.outer.items outer more now.outer_room);
  room = let own = now.room in let at = ap (λ (i : OpenLevel). i.base) is_innermost in omega (arith, own, at, more);
}
  where
    counts : (i : ℕ) → count_in (drop old.innermost.base new.tallies.items) i ≡ count_in now.mine i
    counts i = t.counts i ∙ ap (λ (f : List Met). count_in f i) (own_tally defs old outer level now)

-- rules that were met stay so, where the counts are those of the same keys
pub met_again : (rules : List DRule) (keys : List Key) (level : OpenLevel) (old new : List Met) (from to : ℕ) → IsCounted rules keys level old → IsCounted rules keys level new
    → AreMet rules old from to → AreMet rules new from to
met_again rules keys level old new from to a b met i rule above below at =
    let enough = met i rule above below at in let e = a.counted i rule at in let f = b.counted i rule at in omega (arith, enough, e, f)

-- the innermost level is met further
pub met_further : (defs : List PlainDefinition) (old new : OpenLevels) (outer : List SoFar) (level : SoFar) (rules : List DRule) (key : Key) (run done : ℕ) (tally : List Met)
    (now : AreOpen defs old outer level) → level.rules ≡ rules
    → IsCounted rules (level.keys ++ key ∷ []) (record old.innermost { run = run; done = done }) tally → new.innermost ≡ record old.innermost { run = run; done = done }
    → new.outer.items ≡ old.outer.items → new.tallies.items ≡ take old.innermost.base old.tallies.items ++ tally → vec_capacity old.tallies ≤ vec_capacity new.tallies
    → AreOpen defs new outer (and_key level key)
met_further defs old new outer level rules key run done tally now same counted is_innermost is_outer is_tallies more = record {
  before = now.before;
  mine = tally;
  parts = is_tallies ∙ ap (λ (t : List Met). t ++ tally) (tallies_before defs old outer level now);
  are_outer = subst (λ (t : List OpenLevel). AreKept defs 0 t now.before outer) (sym is_outer) now.are_outer;
  base = ap (λ (i : OpenLevel). i.base) is_innermost ∙ now.base;
  innermost = subst (λ (i : OpenLevel). IsKept defs i tally (and_key level key)) (sym is_innermost) (record {
    definition = now.innermost.definition;
    is_definition = now.innermost.is_definition;
    is_rules = now.innermost.is_rules;
    is_end = now.innermost.is_end;
    counted = subst (λ (rs : List DRule). IsCounted rs (level.keys ++ key ∷ []) (record old.innermost { run = run; done = done }) tally) (sym same) counted;
  });
  outer_room = subst (λ (t : List OpenLevel). HaveTallyRoom (vec_capacity new.tallies) t outer) (sym is_outer)
      (room_more (vec_capacity old.tallies) (vec_capacity new.tallies) old.outer.items outer more now.outer_room);
  room = let own = now.room in let at = ap (λ (i : OpenLevel). i.base) is_innermost in omega (arith, own, at, more);
}

-- ---- the rules that are met, up to a place

pub met_all : (rules : List DRule) (tally : List Met) (from to : ℕ) → AreMet rules tally 0 from → AreMet rules tally from to → AreMet rules tally 0 to
met_all rules tally from to a b i rule above below at = by (nat_lt i from) refl
  where
    by : (x : Bool) → nat_lt i from ≡ x → rule.min ≤ count_in tally i
    by true e = a i rule above (ltb-true i from e) at
    by false e = b i rule (ltb-false i from e) below at

pub unmet_all : (rules : List DRule) (tally : List Met) (from to i : ℕ) → AreMet rules tally 0 from → IsFirstUnmet rules tally from to i → IsFirstUnmet rules tally 0 to i
unmet_all rules tally from to i a u = record {
  from_here = omega arith;
  inside = u.inside;
  rule = u.rule;
  is_rule = u.is_rule;
  unmet = u.unmet;
  met_before = met_all rules tally from i a u.met_before;
}

pub done_further : (rules : List DRule) (keys : List Key) (level : OpenLevel) (tally : List Met) (done : ℕ) → IsCounted rules keys level tally → done ≤ length rules → AreMet rules tally 0 done
    → IsCounted rules keys (record level { done = done }) tally
done_further rules keys level tally done c within met = record {
  run = c.run;
  rising = c.rising;
  below = c.below;
  counted = c.counted;
  met_before = c.met_before;
  done_within = within;
  done = met;
}

-- ---- the end of a level

pub all_met : (rules : List DRule) (keys : List Key) (level : OpenLevel) (tally : List Met) → IsCounted rules keys level tally → AreMet rules tally 0 (length rules) → IsMetAtEnd rules keys
all_met rules keys level tally c enough i rule first =
    let at = enough i rule (omega arith) (slice_get_within rules i rule first.is_rule) first.is_rule in
    omega (arith, at, c.counted i rule first.is_rule, first.short)

pub one_missing : (rules : List DRule) (keys : List Key) (level : OpenLevel) (tally : List Met) (i : ℕ) (rule : DRule) → IsCounted rules keys level tally
    → IsFirstUnmet rules tally 0 (length rules) i → slice_get rules i ≡ Some rule
    → IsFirstMissing rules keys i rule
one_missing rules keys level tally i rule c unmet at = record {
  is_rule = at;
  short = let lt = unmet.unmet in
      let same : unmet.rule ≡ rule = same_Some unmet.rule rule (sym unmet.is_rule ∙ at) in
      let less : count_in tally i < rule.min = subst (λ (r : DRule). count_in tally i < r.min) same lt in
      omega (arith, less, c.counted i rule at);
  first = λ j other lt here. let enough = unmet.met_before j other (omega arith) lt here in omega (arith, enough, c.counted j other here);
}

-- ---- the rules that are met so far

pub met_next : (rules : List DRule) (tally : List Met) (from place next : ℕ) (rule : DRule) → AreMet rules tally from place → slice_get rules place ≡ Some rule → rule.min ≤ count_in tally place
    → IsFirstWanted rules (place + 1) next → AreMet rules tally from next
met_next rules tally from place next rule met at enough wanted i other above below here = by (nat_lt i place) refl (i == place) refl
  where
    by : (b : Bool) → nat_lt i place ≡ b → (same : Bool) → (i == place) ≡ same → other.min ≤ count_in tally i
    by true e same f = met i other above (ltb-true i place e) here
    by false e true f =
        let is : i ≡ place = eqb-true i place f in
        let one : rule ≡ other = same_Some rule other (sym at ∙ ap (λ (n : ℕ). slice_get rules n) (sym is) ∙ here) in
        subst (λ (r : DRule). r.min ≤ count_in tally i) one (subst (λ (n : ℕ). rule.min ≤ count_in tally n) (sym is) enough)
    by false e false f =
        let following = ltb-false i place e in
        let other_place : i ≢ place = λ p. both_ways (i == place) f (eq-eqb i place p) in
        let none : other.min ≡ 0 = wanted.none_before i other (omega (arith, following, other_place)) below here in
        omega (arith, none)
