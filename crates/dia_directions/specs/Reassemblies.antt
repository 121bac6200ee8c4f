-- Directions as plain values.
use Rattle.dia_directions.specs.declared.reassembly.Reassembly.{Reassembly}
use Rattle.dia_directions.specs.Order.{Order}
use Rattle.dia_directions.specs.Waits.{all_placed}

abbrev pub order_of : Reassembly → Order
order_of r = record { next = r.next; waiting = all_placed r.next r.waiting.items }
