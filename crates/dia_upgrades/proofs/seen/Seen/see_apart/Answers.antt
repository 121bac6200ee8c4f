use Rattle.std.proofs.Common.{[], ◌∷◌, ◌++◌, Bool, List, None, cond, inl, refl, subst, sym, ◌∙◌}
use Rattle.std.proofs.lemmas.List.{append-nil}
use Rattle.dia_upgrades.specs.Rows.{AreCauses, Row, recorded_of, tolds}
use Rattle.dia_upgrades.specs.Recorded.{row_of}
use Rattle.dia_upgrades.proofs.LinesToReport.{sees_apart}
use Rattle.dia_upgrades.proofs.Rows.{come_cause, come_seen}
use Rattle.dia_upgrades.proofs.seen.Seen.see_apart.Goals as goal

pub returns-then-known : goal.returns-then-known
returns-then-known c = λ asked says same.
    let place = c.args.place in
    let t = row_of place says None in
    let before = c.args.self.now.meanings in
    let known = c.in_ok-known.ensures in
    sees_apart asked place c.args.self.now _ t c.in_ok-known.known (λ list rows seen. rw same (known.accepted list (tolds rows) seen))
    (λ list rows x words seen. come_seen _ list rows x (known.come list (tolds rows) (recorded_of x) (words ∙ same) seen)) refl refl refl refl refl
    (λ forgets recorded visits small are. subst (λ (b : Bool). AreCauses forgets before (recorded ++ cond b [] (t ∷ [])) place visits) (sym c.if-known.true)
    (subst (λ (xs : List Row). AreCauses forgets before xs place visits) (sym (append-nil recorded)) are))

pub returns : goal.returns
returns c = λ asked says same.
    let place = c.args.place in
    let t = row_of place says None in
    let known = c.in_ok-known.ensures in
    sees_apart asked place c.args.self.now _ t c.in_ok-known.known (λ list rows seen. rw same (known.accepted list (tolds rows) seen))
    (λ list rows x words seen. come_seen _ list rows x (known.come list (tolds rows) (recorded_of x) (words ∙ same) seen)) refl refl refl refl refl
    (λ forgets recorded visits small are. subst (λ (b : Bool). AreCauses forgets c.add.new.self (recorded ++ cond b [] (t ∷ [])) place visits) (sym c.if-known.false)
    (come_cause forgets c.add.new.self recorded t place visits (c.in_ok-add.ensures forgets (tolds recorded) (recorded_of t) visits small refl same (inl (sym c.new-none.ensures.bytes)) are)))
