-- What the pointer in a handle owns: nothing where the handle holds nothing, and else the same as a box of what it holds.
use base.Fml.{Fml, ftrue}
use denote.RawPtr.{Ptr}
use Rattle.std.specs.Prelude.{Option, None, Some}
use Rattle.std.specs.Coded.{Coded, coded_option}
use Rattle.std.specs.Box.Ownership.{box_owns}
use Rattle.std.specs.Global.{Global}
use Rattle.std_heap.specs.contracts.GlobalAllocator.TheImpl.{ghosts}
use Rattle.dia_c_calls.specs.contracts.held.Held.{the_row}

abbrev pub handle_owns : Global → Ptr → Option the_row.Denot → Fml
handle_owns alloc p None = ftrue
handle_owns alloc p (Some held) = box_owns (ghosts.dealloc_token alloc) the_row p held

abbrev pub held_coded : Coded (Option the_row.Denot)
held_coded = coded_option the_row.coded
