-- A pointer to what a handle holds may go to another thread, since what it holds may.
use mir.Raw.{raw}
use base.Shift.{Keyless}
use denote.Memory.{lone}
use denote.RawPtr.{Ptr}
use denote.Param.Send.{IsSend, AllSend, sendable, owning_send, struct_send}
use denote.Struct.Owning.{shape, fields, to}
use denote.Struct.Struct.{exits_of}
use Rattle.std.specs.Prelude.{Option, None, Some}
use Rattle.std.specs.Global.{Global}
use Rattle.std.proofs.Crossing as crossing
use Rattle.std_alloc.proofs.SendSync.{lies, quiet}
use Rattle.dia_c_calls.specs.contracts.held.Held as Held
use Rattle.dia_c_calls.proofs.held.Held.TheSendSync as crosses
use Rattle.dia_c_calls.specs.Handles.{handle_owns}
use Rattle.dia_c_calls.specs.contracts.handle.seal.Seal as Seal

heap : (alloc : Global) (p : Ptr) (held : Option (Held.the_row).Denot) → Keyless (handle_owns alloc p held)
heap alloc p None = tt
heap alloc p (Some held) = (lies Held.the_row crosses.the_send p held, crossing.frees.frees alloc (raw (lone (Held.the_row).mir)) p)

all : AllSend (fields Seal.the_type)
all = (search sendable, (search sendable depth 20, tt))

pub send : IsSend Seal.the_row
send = owning_send Seal.the_type all (λ d. heap d.alloc d.ptr d.held) (λ k. quiet (to Seal.the_type) (exits_of k (fields Seal.the_type)) ((struct_send (shape Seal.the_type) all).leaving k))
