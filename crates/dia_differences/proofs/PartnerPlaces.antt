-- Partners by look-ups.
use Rattle.std.proofs.Common.{◌≡◌, ℕ, ◌<◌, Bool, cond, List, length, Option, Some, None, Result, Ok, Err, refl, sym, ap, subst, ◌∙◌}
use Rattle.std.specs.Prelude.{IfOk, IfSome, is_some, option_and_then, slice_get, position}
use Rattle.std.specs.Option.{option_or}
use Rattle.std.specs.Str.{bytes_eq}
use Rattle.std.proofs.lemmas.Option.{same_Some, slice_get_within}
use Rattle.dia_wire.specs.declared.Key.{Key}
use Rattle.dia_book.specs.Dictionary.{Dictionary, DictEntry, PlainDefinition, entry_of}
use Rattle.dia_valid.proofs.Entries.{at_position}
use Rattle.dia_valid.proofs.Members.{at_some, there_is, when_some}
use Rattle.dia_differences.specs.Headers.{messages}
use Rattle.dia_differences.specs.Partners.{Matches, avp_partner, command_partner, has_command_name, has_key, has_messages, has_name, same_messages, unless_in, unless_known}
use Rattle.dia_differences.proofs.CommandMessages.{Messages}

pub with_both : {X E : Type 0} (P Q R : X → Type 0) (r : Result X E) → ((x : X) → P x → Q x → R x) → IfOk r P → IfOk r Q → IfOk r R
with_both P Q R (Ok x) f p q = f x p q
with_both P Q R (Err e) f p q = tt

pub same_matches : (m n : Matches) → m.avps ≡ n.avps → m.avps_back ≡ n.avps_back → m.commands ≡ n.commands → m.commands_back ≡ n.commands_back → m ≡ n
same_matches m n there back commands commands_back =
    let f : List (Option ℕ) → Matches = λ ps. record { avps = ps; avps_back = m.avps_back; commands = m.commands; commands_back = m.commands_back } in
    let g : List (Option ℕ) → Matches = λ ps. record { avps = n.avps; avps_back = ps; commands = m.commands; commands_back = m.commands_back } in
    let h : List (Option ℕ) → Matches = λ ps. record { avps = n.avps; avps_back = n.avps_back; commands = ps; commands_back = m.commands_back } in
    let k : List (Option ℕ) → Matches = λ ps. record { avps = n.avps; avps_back = n.avps_back; commands = n.commands; commands_back = ps } in
    ap f there ∙ ap g back ∙ ap h commands ∙ ap k commands_back

pub position_within : {X : Type 0} (p : X → Bool) (xs : List X) (j : ℕ) → Some j ≡ position p xs → j < length xs
position_within p xs j is = let (x, at, test) = at_position p xs j (sym is) in slice_get_within xs j x at

-- ---- AVPs

module _ (a b : Dictionary) (i : ℕ) (key : Key) (read : IfSome (slice_get a.entries i) (λ e. key ≡ e.key)) where
  pub avp_by_key : (j : ℕ) → Some j ≡ entry_of b key → IfSome (slice_get a.entries i) (λ x. Some j ≡ avp_partner a b x)
  avp_by_key j found = when_some (λ (x : DictEntry). Some j ≡ avp_partner a b x) (slice_get a.entries i) (λ x at.
      let same : key ≡ x.key = at_some (λ (e : DictEntry). key ≡ e.key) (slice_get a.entries i) x read at in
      ap (λ (o : Option ℕ). option_or o (option_and_then (unless_known has_key a.entries b.entries) (position (has_name x) b.entries))) (found ∙ ap (entry_of b) same))

  pub avp_by_text : (name : List ℕ) (o : Option ℕ) → None ≡ entry_of b key → IfSome (slice_get a.entries i) (λ e. name ≡ e.name)
      → o ≡ option_and_then (unless_known has_key a.entries b.entries) (position (λ e. bytes_eq name e.name) b.entries) → IfSome (slice_get a.entries i) (λ x. o ≡ avp_partner a b x)
  avp_by_text name o none named is = when_some (λ (x : DictEntry). o ≡ avp_partner a b x) (slice_get a.entries i) (λ x at.
      let same : key ≡ x.key = at_some (λ (e : DictEntry). key ≡ e.key) (slice_get a.entries i) x read at in
      let text : name ≡ x.name = at_some (λ (e : DictEntry). name ≡ e.name) (slice_get a.entries i) x named at in
      is ∙ ap (λ (q : List ℕ). option_and_then (unless_known has_key a.entries b.entries) (position (λ (e : DictEntry). bytes_eq q e.name) b.entries)) text
      ∙ ap (λ (p : Option ℕ). option_or p (option_and_then (unless_known has_key a.entries b.entries) (position (has_name x) b.entries))) (none ∙ ap (entry_of b) same))

pub key_known : (a b : Dictionary) (place i : ℕ) (key : Key) (o : Option ℕ) → i ≡ place → place < length b.entries → IfSome (slice_get b.entries i) (λ e. key ≡ e.key) → o ≡ entry_of a key
    → cond (is_some o) None (Some place) ≡ unless_known has_key a.entries b.entries place
key_known a b place i key o number within read is =
    let (y, at) = there_is b.entries place within in
    let same : key ≡ y.key = at_some (λ (e : DictEntry). key ≡ e.key) (slice_get b.entries place) y (subst (λ (n : ℕ). IfSome (slice_get b.entries n) (λ (e : DictEntry). key ≡ e.key)) number read) at in
    ap (λ (p : Option ℕ). cond (is_some p) None (Some place)) (is ∙ ap (entry_of a) same)
    ∙ sym (ap (λ (p : Option DictEntry). option_and_then (λ (z : DictEntry). cond (is_some (position (has_key z) a.entries)) None (Some place)) p) at)

-- ---- commands

unless_at : {X : Type 0} (f g : X → Option ℕ) (j : ℕ) → ((x : X) → f x ≡ g x) → (o : Option X) → option_and_then (λ (x : X). cond (is_some (f x)) None (Some j)) o ≡ option_and_then (λ (x : X). cond (is_some (g x)) None (Some j)) o
unless_at f g j same None = refl
unless_at f g j same (Some x) = ap (λ (o : Option ℕ). cond (is_some o) None (Some j)) (same x)

unless_same : {X : Type 0} (f g : X → Option ℕ) (ys : List X) → ((x : X) → f x ≡ g x) → (p : Option ℕ) → option_and_then (unless_in f ys) p ≡ option_and_then (unless_in g ys) p
unless_same f g ys same None = refl
unless_same f g ys same (Some j) = unless_at f g j same (slice_get ys j)

module _ (a b : Dictionary) (i : ℕ) (x : PlainDefinition) (key : Messages) (found : Messages → Option ℕ) (at : slice_get a.commands i ≡ Some x) (is_key : key ≡ messages x.head)
    (finds : (m : Messages) → found m ≡ position (λ c. same_messages m (messages c.head)) b.commands) where
  by_messages : (o : Option ℕ) → o ≡ found key → o ≡ position (has_messages x) b.commands
  by_messages o is = is ∙ ap found is_key ∙ finds (messages x.head)

  at_command : (o : Option ℕ) → o ≡ command_partner a b x → IfSome (slice_get a.commands i) (λ z. o ≡ command_partner a b z)
  at_command o is = when_some (λ (z : PlainDefinition). o ≡ command_partner a b z) (slice_get a.commands i) (λ z there. is ∙ ap (command_partner a b) (same_Some x z (sym at ∙ there)))

  pub command_found : (place : ℕ) → Some place ≡ found key → IfSome (slice_get a.commands i) (λ z. Some place ≡ command_partner a b z)
  command_found place is =
      at_command (Some place) (ap (λ (o : Option ℕ). option_or o (option_and_then (unless_known has_messages a.commands b.commands) (position (has_command_name x) b.commands))) (by_messages (Some place) is))

  pub command_named : (own : Messages → Option ℕ) (name : List ℕ) (o : Option ℕ) → ((m : Messages) → own m ≡ position (λ c. same_messages m (messages c.head)) a.commands) → None ≡ found key → name ≡ x.name
      → o ≡ option_and_then (unless_in (λ y. own (messages y.head)) b.commands) (position (λ c. bytes_eq name c.name) b.commands) → IfSome (slice_get a.commands i) (λ z. o ≡ command_partner a b z)
  command_named own name o finds_own none text is =
      at_command o (is ∙ ap (λ (q : List ℕ). option_and_then (unless_in (λ (y : PlainDefinition). own (messages y.head)) b.commands) (position (λ (c : PlainDefinition). bytes_eq q c.name) b.commands)) text
      ∙ unless_same (λ (y : PlainDefinition). own (messages y.head)) (λ (y : PlainDefinition). position (has_messages y) a.commands) b.commands (λ y. finds_own (messages y.head)) (position (has_command_name x) b.commands)
      ∙ ap (λ (p : Option ℕ). option_or p (option_and_then (unless_known has_messages a.commands b.commands) (position (has_command_name x) b.commands))) (by_messages None none))

pub messages_known : (b : Dictionary) (own : Messages → Option ℕ) (place : ℕ) (x : PlainDefinition) (key : Messages) (o : Option ℕ) → slice_get b.commands place ≡ Some x → key ≡ messages x.head → o ≡ own key
    → cond (is_some o) None (Some place) ≡ unless_in (λ y. own (messages y.head)) b.commands place
messages_known b own place x key o at is_key is =
    ap (λ (p : Option ℕ). cond (is_some p) None (Some place)) (is ∙ ap own is_key)
    ∙ sym (ap (λ (p : Option PlainDefinition). option_and_then (λ (z : PlainDefinition). cond (is_some (own (messages z.head))) None (Some place)) p) at)
