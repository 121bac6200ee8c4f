-- The blocks of a file have one list of packets and one end.
use Rattle.std.proofs.Common.{◌≡◌, ℕ, ◌+◌, Bool, true, false, List, [], ◌∷◌, ◌++◌, drop, get_or, Option, Some, None, refl, sym, ap, subst, ◌∙◌, inl, inr, arith}
use Rattle.std.specs.Prelude.{slice_index}
use Rattle.std.specs.Option.{option_map_or}
use Rattle.std.proofs.lemmas.Option.{same_Some}
use Rattle.dia_packets.specs.declared.blocks.BlockHead.{BlockHead}
use Rattle.dia_packets.specs.declared.blocks.BlockKind.{BlockKind}
use Rattle.dia_packets.specs.declared.blocks.BlockKind.TheVariants.{Section, Description, Data, Other}
use Rattle.dia_packets.specs.declared.fault.Cause.{Cause}
use Rattle.dia_packets.specs.declared.interfaces.Interface.{Interface as OneInterface}
use Rattle.dia_packets.specs.declared.order.Order.{Order}
use Rattle.dia_packets.specs.declared.order.Order.TheVariants.{Big, Little}
use Rattle.dia_packets.specs.Blocks.{AreBlocks, nothing, no_head, no_order, flawed, lacking, block, HasCutHead, HasNoOrder, Heads, section, other, Lacks, Says, added, block_packet, fields_of, flaw}
use Rattle.dia_packets.specs.Blocks.{next_number, order_magic}
use Rattle.dia_packets.specs.Fields.{counted, field}
use Rattle.dia_packets.specs.Interfaces.{FirstOption, here, later, nowhere, HasOffset, HasResolution, IsInterface, options_of}
use Rattle.dia_packets.specs.Packets.{PlainPacket}
use Rattle.dia_packets.specs.Records.{End}

-- ---- heads

first_differs : (a b : ℕ) (xs ys : List ℕ) → xs ≡ ys → get_or xs 0 0 ≡ a → get_or ys 0 0 ≡ b → (a ≡ b → ⊥) → ⊥
first_differs a b xs ys same is_a is_b differ = differ (sym is_a ∙ ap (λ (l : List ℕ). get_or l 0 0) same ∙ is_b)

one_magic : (o o' : Order) → order_magic o ≡ order_magic o' → o ≡ o'
one_magic Big Big e = refl
one_magic Big Little e = absurd (first_differs 26 77 _ _ e refl refl (λ same. omega (arith, same)))
one_magic Little Big e = absurd (first_differs 77 26 _ _ e refl refl (λ same. omega (arith, same)))
one_magic Little Little e = refl

pub heads_once : (order : Order) (bytes : List ℕ) (h k : BlockHead) → Heads order bytes h → Heads order bytes k → h ≡ k
heads_once order bytes _ _ (section its is enough magic) (section its' is' enough' magic') =
    let head : Order → BlockHead = λ o. record { order = o; kind = Section; size = field o 4 4 bytes } in
    ap head (one_magic its its' (sym magic ∙ magic'))
heads_once order bytes _ _ (section its is enough magic) (other isnt enough') = absurd (isnt is)
heads_once order bytes _ _ (other isnt enough) (section its' is' enough' magic') = absurd (isnt is')
heads_once order bytes _ _ (other isnt enough) (other isnt' enough') = refl

pub cut_no_head : (order : Order) (bytes : List ℕ) (head : BlockHead) → HasCutHead bytes → Heads order bytes head → ⊥
cut_no_head order bytes _ (inl few) (section its is enough magic) = omega (arith, few, enough)
cut_no_head order bytes _ (inl few) (other isnt enough) = omega (arith, few, enough)
cut_no_head order bytes _ (inr cut) (section its is enough magic) = let few = cut.1 in omega (arith, few, enough)
cut_no_head order bytes _ (inr cut) (other isnt enough) = isnt cut.0

no_order_no_head : (order : Order) (bytes : List ℕ) (head : BlockHead) → HasNoOrder bytes → Heads order bytes head → ⊥
no_order_no_head order bytes _ (is, enough, none) (section its is' enough' magic) = none its magic
no_order_no_head order bytes _ (is, enough, none) (other isnt enough') = isnt is

cut_has_order : (bytes : List ℕ) → HasCutHead bytes → HasNoOrder bytes → ⊥
cut_has_order bytes (inl few) (is, enough, none) = omega (arith, few, enough)
cut_has_order bytes (inr cut) (is, enough, none) = let few = cut.1 in omega (arith, few, enough)

-- ---- interfaces

option_once : (order : Order) (code width : ℕ) (options : List ℕ) (a b : Option (List ℕ)) → FirstOption order code width options a → FirstOption order code width options b → a ≡ b
option_once order code width options _ _ (here has is) (here has' is') = refl
option_once order code width options _ b (here has is) (later has' isnt rest) = absurd (isnt is)
option_once order code width options _ _ (here has is) (nowhere none) = absurd (none has)
option_once order code width options a _ (later has isnt rest) (here has' is') = absurd (isnt is')
option_once order code width options a b (later has isnt rest) (later has' isnt' rest') = option_once order code width _ a b rest rest'
option_once order code width options a _ (later has isnt rest) (nowhere none) = absurd (none has)
option_once order code width options _ _ (nowhere none) (here has is) = absurd (none has)
option_once order code width options _ b (nowhere none) (later has isnt rest) = absurd (none has)
option_once order code width options _ _ (nowhere none) (nowhere none') = refl

resolution_once : (order : Order) (options : List ℕ) (a b : ℕ) → HasResolution order options a → HasResolution order options b → a ≡ b
resolution_once order options a b (found, first, is) (found', first', is') =
    is ∙ ap (λ (v : Option (List ℕ)). option_map_or (λ (value : List ℕ). slice_index value 0) v 6) (option_once order 9 1 options found found' first first') ∙ sym is'

offset_once : (order : Order) (options : List ℕ) (a b : ℕ) → HasOffset order options a → HasOffset order options b → a ≡ b
offset_once order options a b (found, first, is) (found', first', is') =
    is ∙ ap (λ (v : Option (List ℕ)). option_map_or (λ (value : List ℕ). field order 8 0 value) v 0) (option_once order 14 8 options found found' first first') ∙ sym is'

interface_once : (order : Order) (size : ℕ) (bytes : List ℕ) (a b : OneInterface) → IsInterface order size bytes a → IsInterface order size bytes b → a ≡ b
interface_once order size bytes a b is is' =
    let made : ℕ → ℕ → ℕ → OneInterface = λ l r o. record { link = l; resolution = r; offset = o } in
    let link : a.link ≡ b.link = is.link_is ∙ sym is'.link_is in
    let resolution = resolution_once order (options_of size bytes) a.resolution b.resolution is.resolution_is is'.resolution_is in
    let offset = offset_once order (options_of size bytes) a.offset b.offset is.offset_is is'.offset_is in
    ap (λ (l : ℕ). made l a.resolution a.offset) link ∙ ap (λ (r : ℕ). made b.link r a.offset) resolution ∙ ap (λ (o : ℕ). made b.link b.resolution o) offset

-- ---- what a block says

says_once : (kind : BlockKind) (order : Order) (size : ℕ) (interfaces : List OneInterface) (n : ℕ) (bytes : List ℕ) (found found' : List PlainPacket) (now now' : List OneInterface)
    → Says kind order size interfaces n bytes found now → Says kind order size interfaces n bytes found' now' → (found ≡ found') × (now ≡ now')
says_once Section order size interfaces n bytes found found' now now' (v, none, is) (v', none', is') = (none ∙ sym none', is ∙ sym is')
says_once Description order size interfaces n bytes found found' now now' (one, says, none, is) (one', says', none', is') =
    (none ∙ sym none', is ∙ ap (λ (i : OneInterface). added interfaces i) (interface_once order size bytes one one' says says') ∙ sym is')
says_once (Data kind) order size interfaces n bytes found found' now now' (fit, (one, at, says), is) (fit', (one', at', says'), is') =
    (says ∙ ap (λ (i : OneInterface). block_packet n i (fields_of kind order size bytes) bytes ∷ []) (same_Some one one' (sym at ∙ at')) ∙ sym says', is ∙ sym is')
says_once Other order size interfaces n bytes found found' now now' (none, is) (none', is') = (none ∙ sym none', is ∙ sym is')

true_false : (b : Bool) → b ≡ true → b ≡ false → ⊥
true_false b t f = let same : true ≡ false = sym t ∙ f in absurd cc

some_none : {T : Type 0} (o : Option T) (x : T) → o ≡ Some x → o ≡ None → ⊥
some_none {T} o x is none = let same : Some x ≡ None = sym is ∙ none in absurd cc

says_or_lacks : (kind : BlockKind) (order : Order) (size : ℕ) (interfaces : List OneInterface) (n : ℕ) (bytes : List ℕ) (found : List PlainPacket) (now : List OneInterface) (cause : Cause)
    → Says kind order size interfaces n bytes found now → Lacks kind order size interfaces bytes cause → ⊥
says_or_lacks Section order size interfaces n bytes found now cause says lacks = lacks.0 says.0
says_or_lacks Description order size interfaces n bytes found now cause says lacks = lacks
says_or_lacks (Data kind) order size interfaces n bytes found now cause (fit, (one, at, is), after) (inl lacks) = true_false _ fit lacks.0
says_or_lacks (Data kind) order size interfaces n bytes found now cause (fit, (one, at, is), after) (inr lacks) = some_none _ one at lacks.1
says_or_lacks Other order size interfaces n bytes found now cause says lacks = lacks

lacks_once : (kind : BlockKind) (order : Order) (size : ℕ) (interfaces : List OneInterface) (bytes : List ℕ) (a b : Cause)
    → Lacks kind order size interfaces bytes a → Lacks kind order size interfaces bytes b → a ≡ b
lacks_once Section order size interfaces bytes a b (v, is) (v', is') = is ∙ sym is'
lacks_once Description order size interfaces bytes a b h k = absurd h
lacks_once (Data kind) order size interfaces bytes a b (inl (unfit, is)) (inl (unfit', is')) = is ∙ sym is'
lacks_once (Data kind) order size interfaces bytes a b (inl (unfit, is)) (inr (fit, none, is')) = absurd (true_false _ fit unfit)
lacks_once (Data kind) order size interfaces bytes a b (inr (fit, none, is)) (inl (unfit, is')) = absurd (true_false _ fit unfit)
lacks_once (Data kind) order size interfaces bytes a b (inr (fit, none, is)) (inr (fit', none', is')) = is ∙ sym is'
lacks_once Other order size interfaces bytes a b h k = absurd h

-- ---- all blocks

abbrev refused_at : ℕ → Cause → End
refused_at at cause = Some (record { cause = cause; at = at })

flaws_once : (order : Order) (bytes : List ℕ) (h k : BlockHead) (a b : Option Cause) → Heads order bytes h → Heads order bytes k → flaw h bytes ≡ a → flaw k bytes ≡ b → a ≡ b
flaws_once order bytes h k a b is is' at at' = sym at ∙ ap (λ (head : BlockHead). flaw head bytes) (heads_once order bytes h k is is') ∙ at'

no_bytes_no_head : (order : Order) (head : BlockHead) → Heads order [] head → ⊥
no_bytes_no_head order _ (section its is enough magic) = omega (arith, enough)
no_bytes_no_head order _ (other isnt enough) = omega (arith, enough)

same_lacks : (order : Order) (interfaces : List OneInterface) (bytes : List ℕ) (h k : BlockHead) (cause : Cause) → Heads order bytes h → Heads order bytes k
    → Lacks h.kind h.order h.size interfaces bytes cause → Lacks k.kind k.order k.size interfaces bytes cause
same_lacks order interfaces bytes h k cause is is' lacks =
    subst (λ (head : BlockHead). Lacks head.kind head.order head.size interfaces bytes cause) (heads_once order bytes h k is is') lacks

pub blocks_once : (order : Order) (interfaces : List OneInterface) (at n : ℕ) (bytes : List ℕ) (ps qs : List PlainPacket) (e f : End)
    → AreBlocks order interfaces at n bytes ps e → AreBlocks order interfaces at n bytes qs f → (ps ≡ qs) × (e ≡ f)
blocks_once order interfaces at n _ _ _ _ _ nothing nothing = (refl, refl)
blocks_once order interfaces at n _ _ _ _ _ nothing (no_head some' cut') = absurd (omega (arith, some'))
blocks_once order interfaces at n _ _ _ _ _ nothing (no_order none') = absurd (let enough = none'.1 in omega (arith, enough))
blocks_once order interfaces at n _ _ _ _ _ nothing (flawed h' c' is' bad') = absurd (no_bytes_no_head order h' is')
blocks_once order interfaces at n _ _ _ _ _ nothing (lacking h' c' is' good' lacks') = absurd (no_bytes_no_head order h' is')
blocks_once order interfaces at n _ _ _ _ f nothing (block {others = os'} h' found' now' is' good' says' rest') = absurd (no_bytes_no_head order h' is')
blocks_once order interfaces at n _ _ _ _ _ (no_head some cut) nothing = absurd (omega (arith, some))
blocks_once order interfaces at n bytes _ _ _ _ (no_head some cut) (no_head some' cut') = (refl, refl)
blocks_once order interfaces at n bytes _ _ _ _ (no_head some cut) (no_order none') = absurd (cut_has_order bytes cut none')
blocks_once order interfaces at n bytes _ _ _ _ (no_head some cut) (flawed h' c' is' bad') = absurd (cut_no_head order bytes h' cut is')
blocks_once order interfaces at n bytes _ _ _ _ (no_head some cut) (lacking h' c' is' good' lacks') = absurd (cut_no_head order bytes h' cut is')
blocks_once order interfaces at n bytes _ _ _ f (no_head some cut) (block {others = os'} h' found' now' is' good' says' rest') = absurd (cut_no_head order bytes h' cut is')
blocks_once order interfaces at n _ _ _ _ _ (no_order none) nothing = absurd (let enough = none.1 in omega (arith, enough))
blocks_once order interfaces at n bytes _ _ _ _ (no_order none) (no_head some' cut') = absurd (cut_has_order bytes cut' none)
blocks_once order interfaces at n bytes _ _ _ _ (no_order none) (no_order none') = (refl, refl)
blocks_once order interfaces at n bytes _ _ _ _ (no_order none) (flawed h' c' is' bad') = absurd (no_order_no_head order bytes h' none is')
blocks_once order interfaces at n bytes _ _ _ _ (no_order none) (lacking h' c' is' good' lacks') = absurd (no_order_no_head order bytes h' none is')
blocks_once order interfaces at n bytes _ _ _ f (no_order none) (block {others = os'} h' found' now' is' good' says' rest') = absurd (no_order_no_head order bytes h' none is')
blocks_once order interfaces at n _ _ _ _ _ (flawed h c is bad) nothing = absurd (no_bytes_no_head order h is)
blocks_once order interfaces at n bytes _ _ _ _ (flawed h c is bad) (no_head some' cut') = absurd (cut_no_head order bytes h cut' is)
blocks_once order interfaces at n bytes _ _ _ _ (flawed h c is bad) (no_order none') = absurd (no_order_no_head order bytes h none' is)
blocks_once order interfaces at n bytes _ _ _ _ (flawed h c is bad) (flawed h' c' is' bad') =
    (refl, ap (λ (c : Cause). refused_at at c) (same_Some c c' (flaws_once order bytes h h' (Some c) (Some c') is is' bad bad')))
blocks_once order interfaces at n bytes _ _ _ _ (flawed h c is bad) (lacking h' c' is' good' lacks') = absurd (some_none (Some c) c refl (flaws_once order bytes h h' (Some c) None is is' bad good'))
blocks_once order interfaces at n bytes _ _ _ f (flawed h c is bad) (block {others =
    os'} h' found' now' is' good' says' rest') = absurd (some_none (Some c) c refl (flaws_once order bytes h h' (Some c) None is is' bad good'))
blocks_once order interfaces at n _ _ _ _ _ (lacking h c is good lacks) nothing = absurd (no_bytes_no_head order h is)
blocks_once order interfaces at n bytes _ _ _ _ (lacking h c is good lacks) (no_head some' cut') = absurd (cut_no_head order bytes h cut' is)
blocks_once order interfaces at n bytes _ _ _ _ (lacking h c is good lacks) (no_order none') = absurd (no_order_no_head order bytes h none' is)
blocks_once order interfaces at n bytes _ _ _ _ (lacking h c is good lacks) (flawed h' c' is' bad') = absurd (some_none (Some c') c' refl (flaws_once order bytes h' h (Some c') None is' is bad' good))
blocks_once order interfaces at n bytes _ _ _ _ (lacking h c is good lacks) (lacking h' c' is' good' lacks') =
    (refl, ap (λ (c : Cause). refused_at at c) (lacks_once h'.kind h'.order h'.size interfaces bytes c c' (same_lacks order interfaces bytes h h' c is is' lacks) lacks'))
blocks_once order interfaces at n bytes _ _ _ f (lacking h c is good lacks) (block {others =
    os'} h' found' now' is' good' says' rest') = absurd (says_or_lacks h'.kind h'.order h'.size interfaces n bytes found' now' c says' (same_lacks order interfaces bytes h h' c is is' lacks))
blocks_once order interfaces at n _ _ _ e _ (block {others = os} h found now is good says rest) nothing = absurd (no_bytes_no_head order h is)
blocks_once order interfaces at n bytes _ _ e _ (block {others = os} h found now is good says rest) (no_head some' cut') = absurd (cut_no_head order bytes h cut' is)
blocks_once order interfaces at n bytes _ _ e _ (block {others = os} h found now is good says rest) (no_order none') = absurd (no_order_no_head order bytes h none' is)
blocks_once order interfaces at n bytes _ _ e _ (block {others =
    os} h found now is good says rest) (flawed h' c' is' bad') = absurd (some_none (Some c') c' refl (flaws_once order bytes h' h (Some c') None is' is bad' good))
blocks_once order interfaces at n bytes _ _ e _ (block {others =
    os} h found now is good says rest) (lacking h' c' is' good' lacks') = absurd (says_or_lacks h.kind h.order h.size interfaces n bytes found now c' says
    (same_lacks order interfaces bytes h' h c' is' is lacks'))
blocks_once order interfaces at n bytes _ _ e f (block {others = os} h found now is good says rest) (block {others = os'} h' found' now' is' good' says' rest') =
    let head = heads_once order bytes h h' is is' in
    let moved = subst (λ (k : BlockHead). Says k.kind k.order k.size interfaces n bytes found now) head says in
    let (same, after) = says_once h'.kind h'.order h'.size interfaces n bytes found found' now now' moved says' in
    let rest1 = subst (λ (k : BlockHead). AreBlocks k.order now (counted (at + k.size)) (next_number n found) (drop k.size bytes) os e) head rest in
    let rest2 = subst (λ (i : List OneInterface). AreBlocks h'.order i (counted (at + h'.size)) (next_number n found) (drop h'.size bytes) os e) after rest1 in
    let rest3 = subst (λ (ps : List PlainPacket). AreBlocks h'.order now' (counted (at + h'.size)) (next_number n ps) (drop h'.size bytes) os e) same rest2 in
    let all = blocks_once h'.order now' (counted (at + h'.size)) (next_number n found') (drop h'.size bytes) os os' e f rest3 rest' in
    (ap (λ (ps : List PlainPacket). ps ++ os) same ∙ ap (λ (ps : List PlainPacket). found' ++ ps) all.0, all.1)
