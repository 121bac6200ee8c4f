use Rattle.std.proofs.Common.{ℕ, ◌<◌, arith, Option, sym, ap, subst, refl, ◌∙◌}
use Rattle.dia_ccf.specs.declared.reading.Reader.{Reader}
use Rattle.dia_ccf.specs.declared.reading.definitions.Opening.{Opening}
use Rattle.dia_ccf.specs.Plain.{PlainSource, plain_source}
use Rattle.dia_ccf.specs.Tokens.{Declares}
use Rattle.dia_ccf.specs.Machine.{Between, same_sign}
use Rattle.dia_ccf.specs.ReaderFunctions.{course, following, unread, begins_with, left}
use Rattle.dia_ccf.proofs.ReaderPlaces.{placed_still, before_still, same_text, began, decl_occurs, goes_on}
use Rattle.dia_ccf.proofs.ReaderSteps.{takes_sign}
use Rattle.std.specs.Prelude.{IfSome, string_bytes}
use Rattle.dia_ccf.specs.Places.{opened}
use Rattle.dia_ccf.specs.ReaderFunctions.{From}
use Rattle.dia_ccf.specs.Machine.{Decl_name}
use Rattle.dia_ccf.proofs.reading.Reader.source.Goals as goal

pub loop-next-preserved-in-Some : goal.loop-next-preserved-in-Some
loop-next-preserved-in-Some c =
    let read = plain_source c.loop-next.source in
    let now = c.definition.new.self in
    let begins = c.in_ok-def.ensures.begins in
    record {
      read =
          c.loop-next.invariant.read ∙ ap (λ (o : Option Opening). course (read, following o) c.loop-next.self) c.in-Some.is
          ∙ c.in_ok-def.ensures.read read
          ∙ ap (λ (s : PlainSource). course (s, following c.in_ok-def.following) c.definition.new.self) (sym c.in_ok-keep_definition.ensures.kept);
      named = c.in_ok-def.ensures.named;
      placed = c.in_ok-keep_definition.ensures.placed now.text.now (unread c.in_ok-def.following now)
          (before_still c.loop-next.self.text.now now.text.now (unread c.loop-next.next c.loop-next.self) c.in_ok-def.def.at c.loop-next.source (same_text (c.in_ok-def.ensures.read read))
          (ap (λ (o : Option Opening). unread o c.loop-next.self) c.in-Some.is ∙ sym begins) c.loop-next.invariant.placed)
          c.in_ok-def.ensures.placed (subst (λ (n : ℕ). n < unread c.in_ok-def.following now) (sym begins) c.in_ok-def.ensures.later);
      begun = c.in_ok-def.ensures.begun;
    }

pub loop-next-preserved : goal.loop-next-preserved
loop-next-preserved c =
    let read = plain_source c.loop-next.source in
    let same = c.if-takes.ensures.1 in
    record {
      read =
          c.loop-next.invariant.read ∙ ap (λ (o : Option Opening). course (read, following o) c.loop-next.self) c.in_default.is
          ∙ ap (course (read, Between)) (sym same)
          ∙ c.in_ok-name.ensures.read read (ap (λ (r : Reader). begins_with (same_sign Declares) (left r)) same ∙ c.if-takes.ensures.0);
      named = c.in_ok-name.ensures.named;
      placed = before_still c.loop-next.self.text.now c.defined_name.new.self.text.now (unread c.loop-next.next c.loop-next.self) c.loop-next.self.at c.loop-next.source
          (ap (λ (r : Reader). r.text.now) (sym same) ∙ c.in_ok-name.ensures.derived.3) (ap (λ (o : Option Opening). unread o c.loop-next.self) c.in_default.is) c.loop-next.invariant.placed;
      begun = began c.loop-next.self c.takes.new.self c.defined_name.new.self c.in_ok-name.name same c.in_ok-name.ensures.derived;
    }

pub loop-next-preserved-in-Continue-branch-4 : goal.loop-next-preserved-in-Continue-branch-4
loop-next-preserved-in-Continue-branch-4 c =
    let read = plain_source c.loop-next.source in
    let now = c.declaration.new.self in
    let old = c.loop-next.self in
    let none = c.in_default.is in
    let took = c.if-takes.ensures in
    let begins = c.in_ok-decl.ensures.placed in
    let same = took.2.1 ∙ same_text (c.in_ok-decl.ensures.read read) in
    record {
      read =
          c.loop-next.invariant.read ∙ ap (λ (o : Option Opening). course (read, following o) c.loop-next.self) none
          ∙ takes_sign (read, Between) (read, Decl_name) Declares c.loop-next.self c.takes.new.self took refl ∙ c.in_ok-decl.ensures.read read
          ∙ ap (λ (s : PlainSource). course (s, Between) now) (sym c.in_ok-keep_declaration.ensures.kept)
          ∙ ap (λ (o : Option Opening). course (plain_source c.keep_declaration.new.source, following o) now) (sym none);
      named = c.loop-next.invariant.named;
      placed = c.in_ok-keep_declaration.ensures.placed now.text.now (unread c.loop-next.next now)
          (before_still old.text.now now.text.now (unread c.loop-next.next old) c.in_ok-decl.decl.at c.loop-next.source same
          (ap (λ (o : Option Opening). unread o old) none ∙ sym begins) c.loop-next.invariant.placed)
          (decl_occurs c.in_ok-decl.decl old c.takes.new.self now begins took c.in_ok-decl.ensures.derived)
          (subst (λ (n : ℕ). n < unread c.loop-next.next now) (sym begins)
          (subst (λ (o : Option Opening). old.at < unread o now) (sym none) (goes_on old now same (omega (arith, took.2.2, c.in_ok-decl.ensures.farther)))));
      begun = subst (λ (o : Option Opening). IfSome o (λ next. From next.at (opened (string_bytes next.name)) now)) (sym none) tt;
    }

pub returns-then-is_none-clause-placed : goal.returns-then-is_none-clause-placed
returns-then-is_none-clause-placed c = placed_still c.loop-next.self.text.now c.takes.new.self.text.now c.loop-next.source (ap (λ (r : Reader). r.text.now) (sym c.if-takes.ensures.1)) c.loop-next.invariant.placed.placed
