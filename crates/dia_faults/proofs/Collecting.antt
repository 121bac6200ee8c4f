-- Faults that are collected one list after the other.
use Rattle.std.proofs.Common.{◌≡◌, ℕ, true, List, [], ◌++◌, length, map, refl, sym, subst, ◌∙◌, arith, append_assoc}
use Rattle.std.proofs.lemmas.Bool.{ltb-true, lt-ltb}
use Rattle.std.proofs.lemmas.List.{append-nil, length-append, map-append, take-append-le}
use Rattle.dia_check.specs.declared.fault.Fault.{Fault}
use Rattle.dia_check.specs.declared.open_levels.Wrong.{Wrong}
use Rattle.dia_check.specs.Recording.{recorded}
use Rattle.dia_faults.specs.declared.collector.Collector.{Collector}
use Rattle.dia_faults.specs.Collecting.{Adds, Holds}

pub adds_none : (c : Collector) → Adds c c []
adds_none c = record { same_most = refl; holds = λ all h. subst (Holds c) (sym (append-nil all)) h }

pub adds_both : (a b c : Collector) (xs ys : List Fault) → Adds a b xs → Adds b c ys → Adds a c (xs ++ ys)
adds_both a b c xs ys first second = record {
  same_most = second.same_most ∙ first.same_most;
  holds = λ all h. subst (Holds c) (append_assoc all xs ys) (second.holds (all ++ xs) (first.holds all h));
}

-- what is wrong at one place
pub adds_wrongs : (at : ℕ) (a b c : Collector) (xs ys : List Wrong) → Adds a b (map (recorded at) xs) → Adds b c (map (recorded at) ys) → Adds a c (map (recorded at) (xs ++ ys))
adds_wrongs at a b c xs ys first second = subst (Adds a c) (sym (map-append (recorded at) xs ys)) (adds_both a b c (map (recorded at) xs) (map (recorded at) ys) first second)

-- once there are more, nothing changes
pub adds_full : (c : Collector) (xs : List Fault) → c.more ≡ true → Adds c c xs
adds_full c xs full = record {
  same_most = refl;
  holds = λ all h.
      let lt = ltb-true c.most (length all) (sym h.is_more ∙ full) in
      let size = length-append all xs in
      record {
        are_first = h.are_first ∙ sym (take-append-le c.most all xs (omega (arith, lt)));
        is_more = full ∙ sym (lt-ltb c.most (length (all ++ xs)) (omega (arith, lt, size)));
      };
}
