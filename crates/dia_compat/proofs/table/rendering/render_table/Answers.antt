use Rattle.std.proofs.Common.{rules, ◌≡◌, ◌≤◌, length, string_bytes, sym, subst}
use Rattle.dia_compat.specs.TableText.{plain_table, max_table, IsTable}
use Rattle.dia_compat.specs.WrittenTable.{table_text}
use Rattle.dia_compat.proofs.TableReadBack.{text_is_table, text_fits}
use Rattle.dia_compat.proofs.table.rendering.render_table.Goals as goal

pub returns-clause-read_back : goal.returns-clause-read_back
returns-clause-read_back c = λ w.
    let text : string_bytes c.push_lines-2.new.text ≡ table_text (plain_table c.args.table.now) = search rules in
    subst (λ bytes. IsTable bytes (plain_table c.args.table.now)) (sym text) (text_is_table (plain_table c.args.table.now) w)

pub returns-clause-fits : goal.returns-clause-fits
returns-clause-fits c = λ w.
    let text : string_bytes c.push_lines-2.new.text ≡ table_text (plain_table c.args.table.now) = search rules in
    subst (λ bytes. length bytes ≤ max_table) (sym text) (text_fits (plain_table c.args.table.now) w)
