use Rattle.std.proofs.Common.{ℕ, List, ◌≡◌, ◌++◌, length, map, ap, ◌∙◌, subst, arith}
use Rattle.std.specs.Prelude.{◌==◌}
use Rattle.std.specs.List.{list_any}
use Rattle.dia_dict.specs.Indexed.{AreEntries, AreCommands, AreSlotsOfEach}
use Rattle.dia_dict.specs.Selectors.{is_for_app, service_of}
use Rattle.dia_book.specs.declared.Definition.{Definition}
use Rattle.dia_dict.specs.declared.entry_list.Row.{Row}
use Rattle.dia_dict.proofs.BookRows.{groups_fit}
use Rattle.dia_dict.specs.SameSelectors.{same_selector}
use Rattle.dia_dict.proofs.indexed_book.IndexedBook.from_plain.Goals as goal

pub commands_of-requires : goal.commands_of-requires
commands_of-requires c =
    let b = c.args.book in
    omega (arith, groups_fit b.entries.rows.items b.entries.groups.items b.entries.numbered, b.few, c.len.ensures, ap length c.deref-2.ensures.value)

pub invariant_of-result : goal.invariant_of-result
invariant_of-result c =
    let groups : c.len.result ≡ length c.args.book.entries.groups.items = omega (arith, c.len.ensures, c.args.book.entries.groups.ok.0) in
    record {
      known = subst (λ (rows : List Row). AreEntries c.in_ok-entries.entries rows) c.deref.ensures.value c.in_ok-entries.ensures;
      selected = subst (λ (n : ℕ). AreCommands same_selector c.in_ok-commands.commands n c.args.book.commands.items) groups
          (subst (λ (ds : List Definition). AreCommands same_selector c.in_ok-commands.commands c.len.result ds) c.deref-2.ensures.value c.in_ok-commands.ensures);
      applied = c.are_for_apps-for_apps.ensures ∙ ap (λ (ds : List Definition). list_any (λ (d : Definition). is_for_app d.head) ds) c.deref-3.ensures.value;
      served = λ n. c.in_ok-services.ensures n ∙ ap (λ (ds : List Definition). list_any (λ (m : ℕ). n == m) (map (λ (d : Definition). service_of d.head) ds)) c.deref-4.ensures.value;
      slotted = ∣ subst (AreSlotsOfEach c.in_ok-slots.slots.items) (λ i. c.deref-5.ensures.value i ++ c.deref-6.ensures.value i) c.in_ok-slots.ensures ∣₁;
    }
