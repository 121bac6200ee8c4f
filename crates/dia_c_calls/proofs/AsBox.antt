-- A seal that holds something, and the parts of a box, own what a box owns.
use Rattle.std.proofs.Common.{◌≡◌, ℕ, List, [], ◌∷◌, Option, None, Some, refl, sym, true≢false}
use Rattle.std.specs.Prelude.{IsSome}
use seplogic.Ra.Ura.{Ura}
use mir.Syntax.{impl, tnil, dnil}
use mir.Val.{Val}
use types.Logic.{Logic}
use types.Kit.{Goal, Seq, Item, ‵, ◌$◌}
use denote.RattleType.{RattleType}
use Rattle.std.proofs.alloc.Calls.{Fits}
use Rattle.std_alloc.proofs.BoxSteps.Form.{Bx, D, B, word}
use Rattle.std_alloc.proofs.BoxSteps.Steps.{box_out, box_in}
use Rattle.std_heap.specs.contracts.Global as Heap
use Rattle.std_heap.specs.contracts.GlobalAllocator.TheImpl.{ghosts, dict}
use Rattle.std_heap.proofs.Global.TheLaws as heap
use Rattle.dia_c_calls.specs.contracts.held.Held as Held
use Rattle.dia_c_calls.proofs.held.Held.TheLaws as held
use Rattle.dia_c_calls.specs.contracts.handle.parts.Parts as parts

-- the types of a box of what a handle holds
abbrev pub HeldBox : Bx
HeldBox = record { row = Held.the_row; laws = held.the_row_laws; al = record { row = Heap.the_row; laws = heap.the_row_laws; g = ghosts; d = dict; drops = impl [] tnil dnil } }

abbrev pub HeldParts : RattleType
HeldParts = parts.the_row Held.the_row Heap.the_row ghosts

pub some_of : {A : Type 0} (o : Option A) → IsSome o → (x : A) × (o ≡ Some x)
some_of (Some x) is = (x, refl)
some_of None is = absurd (true≢false (sym is))

module _ (E : Bx) {M : Type 1} {𝓤 : Ura M} {𝓛 : Logic 𝓤} {K : Type 0} {Γ : List (Item 𝓤)} {G : Goal 𝓤 𝓛.H} where
  -- a box by value is one machine value: a pointer into a block and the handle of the allocator
  pub as_word : K → (v : D E) (vs : List Val)
      → ((b o : ℕ) (hv : Val) → Fits E.al hv → vs ≡ word E hv b o ∷ [] → Seq K 𝓛 (‵ ((B E).own_val v (word E hv b o ∷ [])) ∷ Γ) G)
      → Seq K 𝓛 (‵ ((B E).own_val v vs) ∷ Γ) G
  as_word t v vs k = box_out E t v vs (λ b o hv e is fits. box_in E t v b o v.value e refl $ k b o hv fits is)
