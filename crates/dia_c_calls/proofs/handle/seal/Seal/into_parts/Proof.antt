-- The pointer and the allocator of a seal that holds something become those of the parts.
use Rattle.std.proofs.Common.{List, [], ◌∷◌, ◌++◌, Option, refl, sym, subst}
use Rattle.std.specs.Prelude.{IsSome}
use mir.Val.{Val}
use base.Logic.{SProp, ent, id⊢}
use base.Fml.{ftrue, fsep}
use prog.Wp.{WpFn}
use contract.Monad.{fact}
use contract.Running.{tables}
use types.Kit.{‵, raw, ◌⊛◌, ◌$◌, ◌∵◌, !, qed, move, drop, use1, split, join, fsplit, fjoin, rewrite, suffices, done}
use types.Run.{stop, fld, no_more, and_then, of_opd, returns, enter}
use types.Part.{whole, sub, agg}
use types.ByLocal.{alloc_all, pass_all, free_all, look_at, get, get_in, sets}
use denote.Exit.{yes}
use denote.Signature.{plain}
use denote.Steps.{heard, nothing}
use denote.Triple.Walked.{says, Stays, stay_dropped, walk_of, Goes-dropped, ends_at}
use Rattle.std.proofs.raw_atomic.Walks.{proved_at}
use Rattle.std_alloc.proofs.BoxSteps.Form.{D, B, word, box_typed}
use Rattle.dia_c_calls.proofs.AsBox.{HeldBox as E, HeldParts, as_word, some_of}
use Rattle.dia_c_calls.specs.contracts.held.Held as Held
use Rattle.dia_c_calls.specs.contracts.handle.seal.Seal as seal
use Rattle.dia_c_calls.specs.contracts.handle.seal.Seal.into_parts as f
use Rattle.dia_c_calls.specs.contracts.handle.seal.Seal.into_parts.Key.{name as key}
use Rattle.dia_c_calls.proofs.handle.seal.Seal.into_parts.Statement.{statement}
use Rattle.dia_c_calls.proofs.handle.seal.Seal.into_parts.Code as code

abbrev stayed : Stays f.ended.signature.params f.ended.kept
stayed = (stay_dropped (plain (λ _. seal.the_row)) yes, tt)

pub into_parts_spec : {M : Type 1} → statement M
into_parts_spec 𝓤 𝓛 𝓜 𝓡 wired =
    let 𝓣 = tables 𝓤 𝓛.H 𝓜 𝓡 𝓡.env in let c = f.clauses 𝓛 𝓜.mem 𝓡.returns in
    proved_at 𝓛 f.ended stayed c 𝓜 𝓡 (Goes-dropped 𝓛 0 (plain (λ _. seal.the_row)) yes (λ κs x w. refl), tt) key code.function (code.unfolded 𝓤 𝓛.H 𝓜 𝓡 wired) (λ z are.
    let s = z.0.3.0 in let Runs : List Val → SProp 𝓤 = λ us. WpFn 𝓤 𝓛.H 𝓣.C 𝓣.Λ code.function us ((walk_of 𝓛 f.ended stayed c).post z) in
    qed 𝓛 ((‵ ftrue ⊛ ‵ (fsep (seal.the_row.own_val s z.0.4.0) ftrue)) ∷ raw (fact 𝓤 (IsSome s.held)) ∷ []) ∵ split ! $ drop ! $ move ! (1 ∷ []) $
    heard ! (IsSome s.held) (λ some. let (x, is_x) = some_of s.held some in
    let v : D E = record { ptr = s.ptr; alloc = s.alloc; value = x } in let made : HeldParts.Denot = record { ptr = s.ptr; alloc = s.alloc; value = x } in
    fsplit ! $ rewrite ! 0 (λ (h : Option Held.the_row.Denot). ‵ (seal.the_row.own_val (record { ptr = s.ptr; alloc = s.alloc; held = h }) z.0.4.0)) is_x refl $
    use1 𝓛 (‵ ((B E).own_val v z.0.4.0)) (id⊢ 𝓤 _) $
    as_word E ! v z.0.4.0 (λ b o hv fits is. let w = word E hv b o in
    suffices ! (Runs (w ∷ [])) (subst (λ (us : List Val). ent 𝓤 (Runs (w ∷ [])) (Runs (us ++ []))) (sym is) (id⊢ 𝓤 (Runs (w ∷ [])))) $
    use1 𝓛 (‵ (HeldParts.own_val made (w ∷ []))) (id⊢ 𝓤 _) $ move ! (1 ∷ []) $ drop ! $
    enter ! 𝓣.C 𝓣.Λ code.function (w ∷ []) _ $ alloc_all ! (λ l. pass_all ! refl (box_typed E hv b o fits, tt) $
    sets ! (of_opd ! (get_in ! (fld ! refl (stop !)) (sub ! 0 refl (whole !)))) refl (tt, tt) $
    sets ! (of_opd ! (get_in ! (fld ! refl (stop !)) (sub ! 1 refl (whole !)))) refl fits $
    sets ! (of_opd ! (get ! refl)) refl (tt, tt) $
    sets ! (agg ! (and_then ! (get ! refl) (and_then ! (get ! refl) (no_more !)))) refl (box_typed E hv b o fits) $
    returns ! (look_at ! 0 refl) $ free_all ! refl $
    suffices ! _ (ends_at 𝓛 f.ended stayed c z w made (tt, tt) (tt, tt)) $ says ! is_x $
    nothing ! $ nothing ! $ fjoin ! $ join ! $ nothing ! $ join ! $ done !))))
