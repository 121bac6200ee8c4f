use Rattle.std.proofs.Common.{List, ℕ, sym, ◌∙◌, subst, rules}
use Rattle.dia_wire.specs.Wire.{plain_avp}
use Rattle.dia_valid.specs.Valid.{group_at}
use Rattle.dia_mask.specs.declared.texts.Masking.{Masking}
use Rattle.dia_mask.specs.Masked.{Adds, IsLeafMasked, format_at, is_masked}
use Rattle.dia_mask.specs.Texts.{Agrees}
use Rattle.dia_mask.specs.Words.{Grows}
use Rattle.dia_mask.proofs.Characters.{agrees_before, grows_on, no_more}
use Rattle.dia_mask.proofs.Levels.{all_ended, group_entered, leaf_added, level_ended, started}
use Rattle.dia_mask.proofs.Messages.{none_group, some_group}
use Rattle.dia_mask.proofs.message.mask_level.Goals as goal

pub loop-avp-init : goal.loop-avp-init
loop-avp-init g c = (
  no_more c.args.run.now.masking.words,
  λ numbers agrees. started c.args.choice.now numbers (g.B.Book.meaning c.args.book.now) c.args.level.now c.args.out.now.items c.new-outer.result.items (search rules),
)

pub loop-avp-preserved-then-is_group : goal.loop-avp-preserved-then-is_group
loop-avp-preserved-then-is_group g c =
    let d = g.B.Book.meaning c.args.book.now in
    let (k, is) = some_group (group_at d (plain_avp c.in-Ok.avp)) (sym c.if-is_group.true ∙ c.is_group.ensures) in (
      c.loop-avp.invariant.0,
      λ numbers agrees. group_entered c.args.choice.now numbers d c.args.level.now c.args.out.now.items c.loop-avp.out.items c.extend_from_slice.new.self.items c.loop-avp.outer.items
          c.push.new.self.items (record { padding = c.edges_of.result.padding; rest = c.in-Ok.following }) c.loop-avp.rest.now c.edges_of.result.head.now (plain_avp c.in-Ok.avp) k
          (c.loop-avp.invariant.1 numbers agrees) c.in-Ok.ensures.avp c.edges_of.ensures is c.in_ok-extend_from_slice-in-Ok.ensures.items c.in_ok-push-in-Ok.ensures.items,
    )

pub loop-avp-preserved-else-is_group : goal.loop-avp-preserved-else-is_group
loop-avp-preserved-else-is_group g c =
    let d = g.B.Book.meaning c.args.book.now in
    let v = plain_avp c.in-Ok.avp in
    let old = c.loop-avp.run.masking.words in
    let new = c.mask_leaf.new.run.masking.words in
    let leaf = c.in_ok-mask_leaf-in-Ok.ensures in (
      grows_on c.args.run.now.masking.words old new c.loop-avp.invariant.0 leaf.grows,
      λ numbers agrees. leaf_added c.args.choice.now numbers d c.args.level.now c.args.out.now.items c.loop-avp.out.items c.mask_leaf.new.out.items c.loop-avp.outer.items c.loop-avp.rest.now
          c.in-Ok.following.now c.edges_of.result.head.now c.edges_of.result.padding.now v (c.loop-avp.invariant.1 numbers (agrees_before old new numbers leaf.grows agrees))
          c.in-Ok.ensures.avp c.edges_of.ensures (none_group (group_at d v) (sym c.if-is_group.false ∙ c.is_group.ensures))
          (subst (λ (t : List ℕ). Adds (IsLeafMasked numbers (is_masked c.args.choice.now d v) (format_at d v) v.bytes c.edges_of.result.padding.now) t c.mask_leaf.new.out.items)
          c.in_ok-extend_from_slice-in-Ok.ensures.items (leaf.masked numbers agrees)),
    )

pub loop-avp-preserved : goal.loop-avp-preserved
loop-avp-preserved g c =
    let same = c.in_ok-push_no_avp-in-Err.ensures.masking in
    let before = c.loop-avp.run.masking in (
      subst (λ (m : Masking). Grows c.args.run.now.masking.words m.words) (sym same) c.loop-avp.invariant.0,
      λ numbers agrees. level_ended c.args.choice.now numbers (g.B.Book.meaning c.args.book.now) c.args.level.now c.args.out.now.items c.loop-avp.out.items c.push_no_avp.new.out.items
          c.extend_from_slice-in-Some.new.self.items c.loop-avp.outer.items c.pop.new.self.items c.in-Some.waiting c.loop-avp.rest.now
          (c.loop-avp.invariant.1 numbers (subst (λ (m : Masking). Agrees m.words numbers) same agrees)) c.in-Err.ensures.none
          c.in_ok-push_no_avp-in-Err.ensures.added c.in_ok-extend_from_slice-in-Some.ensures.items c.in-Some.ensures.items,
    )

pub returns-in-None-clause-grows : goal.returns-in-None-clause-grows
returns-in-None-clause-grows g c =
    subst (λ (m : Masking). Grows c.args.run.now.masking.words m.words) (sym c.in_ok-push_no_avp-in-Err.ensures.masking) c.loop-avp.invariant.0

pub returns-in-None-clause-masked : goal.returns-in-None-clause-masked
returns-in-None-clause-masked g c = λ numbers agrees.
    all_ended c.args.choice.now numbers (g.B.Book.meaning c.args.book.now) c.args.level.now c.args.out.now.items c.loop-avp.out.items c.push_no_avp.new.out.items c.loop-avp.outer.items
    c.loop-avp.rest.now (c.loop-avp.invariant.1 numbers (subst (λ (m : Masking). Agrees m.words numbers) c.in_ok-push_no_avp-in-Err.ensures.masking agrees))
    (sym c.loop-avp.outer.ok.0 ∙ c.in-None.ensures.cases.0) c.in-Err.ensures.none c.in_ok-push_no_avp-in-Err.ensures.added
