-- The parts of a box own what the box owned.
use Rattle.std.proofs.Common.{◌≡◌, List, [], ◌∷◌, ◌++◌, refl, sym, ap, ◌∙◌, subst}
use mir.Syntax.{a_type, dcons, dnil}
use mir.Raw.{raw as bare}
use mir.Val.{Val, vptr, vstruct, of_list}
use mir.MapTy.{inst_fn}
use base.Logic.{SProp, ent, never, id⊢, fst∗}
use base.Fml.{ftrue, fsep, flft}
use prog.Wp.{WpFn}
use types.Logic.{sem}
use types.Kit.{‵, raw, ◌⊛◌, some, later, ◌$◌, ◌∵◌, !, qed, move, drop, split, split3, join, fsplit, fjoin, fpick, pick, suffices, use1, await, rewrite, feq_l, done}
use types.Run.{stop, fld, of_opd, no_more, and_then, returns, enter}
use types.ByLocal.{alloc_all, pass_all, free_all, look_at, get, get_in, sets, lands_as}
use types.Part.{agg, sub, whole}
use contract.BorrowLft.{◌⊑◌}
use contract.Monad.{fact}
use contract.Running.{tables}
use denote.Exit.{no}
use denote.Builtin.{RawPtr}
use denote.Param.{param, layout, bounded}
use denote.RawPtr.{Ptr, block_ptr, null_ptr, ptr_val, in_a_block}
use denote.Signature.{plain}
use denote.Steps.{nothing, only, heard}
use denote.Struct.Tuple.{Tuple}
use denote.Triple.Call.{calls_at}
use denote.Triple.Clauses.{Lasts, lasts}
use denote.Triple.Spec.{triple_of}
use denote.Triple.Table.{framed}
use denote.Triple.Walked.{says, Stays, stay_dropped, walk_of, ends_at}
use Rattle.std.proofs.alloc.Calls.{Goes-blank, handle_tells}
use Rattle.std_alloc.specs.Box.Ownership.{box_owns}
use Rattle.std_alloc.proofs.BoxSteps.Form.{Bx, D, B, word, box_typed}
use Rattle.std_alloc.proofs.BoxSteps.Steps.{box_in}
use Rattle.std_alloc.specs.contracts.boxed.Box.into_raw_with_allocator as taken
use Rattle.std_alloc.proofs.boxed.Box.into_raw_with_allocator.Met.{met}
use Rattle.std.proofs.raw_atomic.Walks.{proved_at}
use Rattle.dia_c_calls.proofs.AsBox.{as_word}
use Rattle.dia_c_calls.specs.contracts.handle.parts.Parts as parts
use Rattle.dia_c_calls.specs.contracts.handle.parts.Parts.of as f
use Rattle.dia_c_calls.specs.contracts.handle.parts.Parts.of.Key.{name as key}
use Rattle.dia_c_calls.proofs.handle.parts.Parts.of.Statement.{statement}
use Rattle.dia_c_calls.proofs.handle.parts.Parts.of.Code as code

pub of_spec : {M : Type 1} → statement M
of_spec 𝓤 𝓛 𝓜 𝓡 wired T A LT LA g d dd dx allocator freed dropped =
    let E : Bx = record { row = T; laws = LT; al = record { row = A; laws = LA; g = g; d = d; drops = dd } } in
    let types = bounded (a_type ∷ a_type ∷ []) (T, (A, tt)) (dcons d (dcons dd (dcons dx dnil))) in let fn = inst_fn types code.function in
    let 𝓣 = tables 𝓤 𝓛.H 𝓜 𝓡 𝓡.env in let End = f.ended T A g d dd dx in let c = f.clauses T A g d dd dx 𝓛 𝓜.mem 𝓡.returns in
    let stayed : Stays End.signature.params End.kept = (stay_dropped (plain (λ _. B E)) no, tt) in
    let Taken = triple_of 𝓛 (taken.signature T A g d dd dx) (taken.spec T A g d dd dx 𝓛 𝓜.mem 𝓡.returns) in
    let Pair = Tuple (RawPtr ∷ param 1 A ∷ []) in let Made = parts.the_row (param 0 T) (param 1 A) g in
    proved_at 𝓛 End stayed c 𝓜 𝓡 (Goes-blank 𝓛 2 (plain (λ _. B E)) no (λ κs x w. tt), tt) (key types) fn (code.unfolded 𝓤 𝓛.H 𝓜 𝓡 wired (T, (A, tt)) d dd dx) (λ z are.
    let κs = z.0.0 in let qs = z.0.1 in let v = z.0.3.0 in let a = v.alloc in
    let Runs : List Val → SProp 𝓤 = λ us. WpFn 𝓤 𝓛.H 𝓣.C 𝓣.Λ fn us ((walk_of 𝓛 End stayed c).post z) in
    let tokens = ‵ (flft κs.0 qs.0) ⊛ ‵ (flft κs.1.0 qs.1.0) ⊛ ‵ ftrue in
    let alive = raw (fact 𝓤 (κs.0 ⊑ T.lives)) ⊛ raw (fact 𝓤 (κs.1.0 ⊑ A.lives)) ⊛ ‵ ftrue in
    qed 𝓛 ((tokens ⊛ ‵ (fsep ((B E).own_val v z.0.4.0) ftrue)) ∷ alive ∷ []) ∵ split ! $ move ! (1 ∷ []) $ fsplit ! $
    as_word E ! v z.0.4.0 (λ b o hv fits is. let w = word E hv b o in let y : Taken.Ghost = ((κs, qs, tt, (v, tt), (w ∷ [], tt)), tt) in
    suffices ! (Runs (w ∷ [])) (subst (λ (us : List Val). ent 𝓤 (Runs (w ∷ [])) (Runs (us ++ []))) (sym is) (id⊢ 𝓤 (Runs (w ∷ [])))) $
    fjoin ! $ move ! (1 ∷ 0 ∷ []) $ join ! $ join ! $ use1 𝓛 (raw (Taken.pre y)) (id⊢ 𝓤 _) $
    enter ! 𝓣.C 𝓣.Λ fn (w ∷ []) _ $ alloc_all ! (λ l. pass_all ! refl (box_typed E hv b o fits, tt) $ sets ! (of_opd ! (get ! refl)) refl (box_typed E hv b o fits) $
    calls_at ! (framed 𝓤 𝓛.H 𝓜 𝓣) Taken (met 𝓤 𝓛 𝓜 𝓡 (code.calls-std_alloc::boxed::Box::into_raw_with_allocator 𝓡.env wired) T A LT LA g d dd dx allocator freed dropped) y
    (and_then ! (get ! refl) (no_more !)) (λ u.
    use1 𝓛 (later (some (λ (r : Ptr × A.Denot). (tokens ⊛ ‵ (Pair.own_val r (u ∷ [])))
    ⊛ some (λ (ls : Lasts (taken.ended T A g d dd dx) κs y.0.3). ‵ (lasts (taken.ended T A g d dd dx) κs y.0.3 ls)
    ⊛ (raw (fact 𝓤 (r.1 ≡ a)) ⊛ ‵ (box_owns (g.dealloc_token a) (param 0 T) r.0 v.value)))))) (id⊢ 𝓤 (Taken.post y u)) $
    await ! tt $ pick ! (λ r. split ! $ move ! (1 ∷ []) $ pick ! (λ ls. split3 ! $ drop ! $ heard ! (r.1 ≡ a) (λ same.
    in_a_block ! r.0 (λ p. box_owns (g.dealloc_token a) (param 0 T) p v.value) (fst∗ 𝓤 (never 𝓤) (sem 𝓛 (g.dealloc_token a (bare (layout T)) null_ptr))) (λ b' o' at.
    -- [what the box owned; the tokens with the pair; the locals]
    move ! (1 ∷ []) $ split ! $ move ! (1 ∷ []) $ fpick ! (λ us. fsplit ! $ feq_l ! (λ made. fsplit ! $ feq_l ! (λ first_is. fsplit ! $
    rewrite ! 0 (λ (s : A.Denot). ‵ (A.own_val s us.1.0)) same refl $ handle_tells E.al ! a us.1.0 (λ hw second_is fits'.
    let w' = word E hw b' o' in let d' : D E = record { ptr = block_ptr b' o'; alloc = a; value = v.value } in let out : Made.Denot = record { ptr = block_ptr b' o'; alloc = a; value = v.value } in
    let is_word : u ∷ [] ≡ w' ∷ [] = subst (λ (hs : List Val). u ∷ [] ≡ vstruct (of_list (vptr b' o' ∷ (hs ++ []))) ∷ []) second_is
    (subst (λ (ps : List Val). u ∷ [] ≡ vstruct (of_list (ps ++ (us.1.0 ++ []))) ∷ []) (first_is ∙ ap (λ (p : Ptr). ptr_val p ∷ []) at) made) in
    lands_as ! (ap only is_word) refl (box_typed E hw b' o' fits') $
    sets ! (of_opd ! (get_in ! (fld ! refl (stop !)) (sub ! 0 refl (whole !)))) refl (tt, tt) $
    sets ! (of_opd ! (get_in ! (fld ! refl (stop !)) (sub ! 1 refl (whole !)))) refl fits' $ sets ! (of_opd ! (get ! refl)) refl fits' $
    sets ! (agg ! (and_then ! (get ! refl) (and_then ! (get ! refl) (no_more !)))) refl (box_typed E hw b' o' fits') $
    returns ! (look_at ! 0 refl) $ free_all ! refl $
    -- [the allocator; nothing; the tokens; what the box owned]
    move ! (3 ∷ []) $ fsplit ! $ box_in E ! d' b' o' v.value refl refl $ use1 𝓛 (‵ (Made.own_val out (w' ∷ []))) (id⊢ 𝓤 _) $ move ! (1 ∷ []) $ drop ! $
    suffices ! _ (ends_at 𝓛 End stayed c z w' out ((tt, (tt, tt)), tt) (tt, tt)) $ says ! refl $
    nothing ! $ nothing ! $ fjoin ! $ join ! $ move ! (1 ∷ 0 ∷ []) $ join ! $ done !))))))))))))
