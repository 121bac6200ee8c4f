use Rattle.std.proofs.Common.{◌≡◌, ◌++◌, ℕ, Bool, List, [], ◌∷◌, Option, Some, None, OnOk, map, option_to_list, refl, sym, ap, subst, ◌∙◌}
use Rattle.std.specs.Prelude.{if◌then◌else◌, slice_get, option_and_then}
use Rattle.std.specs.Option.{option_map}
use Rattle.std.proofs.lemmas.List.{append-nil}
use Rattle.dia_wire.specs.declared.Key.{Key}
use Rattle.dia_book.specs.Dictionary.{Dictionary, DictEntry}
use Rattle.dia_valid.specs.Valid.{known}
use Rattle.dia_valid.proofs.KnownKeys.{known_by_entry}
use Rattle.dia_valid.proofs.Members.{at_some}
use Rattle.dia_compat.specs.TableText.{plain_pair}
use Rattle.dia_compat.specs.declared.proposing.reaching.Reached.{Reached}
use Rattle.dia_compat.specs.NamedCommands.{shared_pair}
use Rattle.dia_compat.specs.ReachedKeys.{has}
use Rattle.dia_compat.proofs.proposing.push_if_shared.Goals as goal

-- the pair of an entry, by whether the entry's key was reached and what the second knows by that
pair_of : (db : Dictionary) (r : Reached) (e : DictEntry) (key : Key) (b : Bool) (o : Option DictEntry) → key ≡ e.key → b ≡ has r key → known db key ≡ o
    → shared_pair db r e ≡ (if b then option_map (λ (f : DictEntry). (e.name, f.name)) o else None)
pair_of db r e key b o same there at =
    sym (ap (λ (k : Key). if has r k then option_map (λ (f : DictEntry). (e.name, f.name)) (known db k) else None) same)
    ∙ ap (λ (k : Bool). if k then option_map (λ (f : DictEntry). (e.name, f.name)) (known db key) else None) (sym there)
    ∙ ap (λ (p : Option DictEntry). if b then option_map (λ (f : DictEntry). (e.name, f.name)) p else None) at

-- nothing to add
as_before : (ps : List (List ℕ × List ℕ)) (o : Option (List ℕ × List ℕ)) → o ≡ None → ps ≡ ps ++ option_to_list o
as_before ps o e = sym (append-nil ps) ∙ ap (λ (p : Option (List ℕ × List ℕ)). ps ++ option_to_list p) (sym e)

pub returns : goal.returns
returns g c = λ e at.
    let da = g.A.Book.meaning c.first-a.result.now in
    let db = g.B.Book.meaning c.second-b.result.now in
    let i = c.args.entry in
    let j = c.in-Some.other in
    let key = c.entry_key-key.result in
    let at_a : slice_get da.entries i ≡ Some e = ap (λ (d : Dictionary). slice_get d.entries i) c.first-a.ensures.meaning ∙ at in
    let same = at_some (λ (x : DictEntry). key ≡ x.key) (slice_get da.entries i) e c.entry_key-key.ensures at_a in
    let first = at_some (λ (x : DictEntry). c.entry_name.result.now ≡ x.name) (slice_get da.entries i) e c.entry_name.ensures at_a in
    let k = known_by_entry db key j (sym c.avp.ensures ∙ c.in-Some.is) in
    let second = at_some (λ (x : DictEntry). c.entry_name-2.result.now ≡ x.name) (slice_get db.entries j) k.0 c.entry_name-2.ensures k.1 in
    let found = subst (λ (d : Dictionary). known d key ≡ Some k.0) c.second-b.ensures.meaning k.2 in
    let pair = ap (λ (b : Bool). if b then Some (e.name, k.0.name) else None) (sym c.if-not-contains.false)
    ∙ sym (pair_of c.args.sides.now.second c.args.reached.now e key c.contains.result (Some k.0) same c.contains.ensures found) in
    subst (λ (ps : List (List ℕ × List ℕ)). OnOk c.push_pair.result (map plain_pair c.push_pair.new.pairs.items ≡ map plain_pair c.args.pairs.now.items ++ ps))
    (ap (λ (n : List ℕ). (n, c.entry_name-2.result.now) ∷ []) first ∙ ap (λ (n : List ℕ). (e.name, n) ∷ []) second ∙ ap option_to_list pair) c.push_pair.ensures

pub returns-in_default : goal.returns-in_default
returns-in_default g c = λ e at.
    let da = g.A.Book.meaning c.first-a.result.now in
    let db = g.B.Book.meaning c.second-b.result.now in
    let i = c.args.entry in
    let key = c.entry_key-key.result in
    let at_a : slice_get da.entries i ≡ Some e = ap (λ (d : Dictionary). slice_get d.entries i) c.first-a.ensures.meaning ∙ at in
    let same = at_some (λ (x : DictEntry). key ≡ x.key) (slice_get da.entries i) e c.entry_key-key.ensures at_a in
    let found : known db key ≡ None = ap (option_and_then (λ (k : ℕ). slice_get db.entries k)) (sym c.avp.ensures ∙ c.in_default.is) in
    as_before (map plain_pair c.args.pairs.now.items) (shared_pair c.args.sides.now.second c.args.reached.now e)
    (pair_of c.args.sides.now.second c.args.reached.now e key c.contains.result None same c.contains.ensures
    (subst (λ (d : Dictionary). known d key ≡ None) c.second-b.ensures.meaning found)
    ∙ ap (λ (b : Bool). if b then None else None) c.if-not-contains.false)

pub returns-then-not-contains : goal.returns-then-not-contains
returns-then-not-contains g c = λ e at.
    let da = g.A.Book.meaning c.first-a.result.now in
    let i = c.args.entry in
    let key = c.entry_key-key.result in
    let sides = c.args.sides.now in
    let at_a : slice_get da.entries i ≡ Some e = ap (λ (d : Dictionary). slice_get d.entries i) c.first-a.ensures.meaning ∙ at in
    let same = at_some (λ (x : DictEntry). key ≡ x.key) (slice_get da.entries i) e c.entry_key-key.ensures at_a in
    as_before (map plain_pair c.args.pairs.now.items) (shared_pair sides.second c.args.reached.now e)
    (pair_of sides.second c.args.reached.now e key c.contains.result (known sides.second key) same c.contains.ensures refl
    ∙ ap (λ (b : Bool). if b then option_map (λ (f : DictEntry). (e.name, f.name)) (known sides.second key) else None) c.if-not-contains.true)
