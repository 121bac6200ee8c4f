-- The reasons: their order, their result codes (RFC 6733 section 7.1), and their words. Codes and order are this project's.
use Rattle.std.specs.Prelude.{ℕ, ◌==◌, if◌then◌else◌, List, codes}
use Rattle.dia_check.specs.declared.fault.Reason.{Reason}
use Rattle.dia_check.specs.declared.fault.Reason.TheVariants as reason

-- its place in the order of the reasons at one place, its result code, and its word
abbrev pub reason_row : Reason → ℕ × ℕ × List ℕ
reason_row reason.Version = (0, 5011, codes "version")
reason_row reason.Length = (1, 5015, codes "length")
reason_row reason.Bits = (2, 5013, codes "bits")
reason_row reason.Command = (3, 3001, codes "command")
reason_row reason.Application = (4, 3007, codes "application")
reason_row reason.Proxiable = (5, 3008, codes "proxiable")
reason_row reason.AvpLength = (6, 5014, codes "avp-length")
reason_row reason.Unknown = (7, 5001, codes "unknown")
reason_row reason.MBit = (8, 3009, codes "m-bit")
reason_row reason.Missing = (9, 5005, codes "missing")
reason_row reason.NotAllowed = (10, 5008, codes "not-allowed")
reason_row reason.TooMany = (11, 5009, codes "too-many")
reason_row reason.LeafLength = (12, 5014, codes "leaf-length")
reason_row reason.LeafValue = (13, 5004, codes "leaf-value")
reason_row reason.Depth = (14, 5012, codes "depth")

-- the reason of a row: no two have one
abbrev pub reason_at : ℕ → Reason
reason_at n = if n == 0 then reason.Version else if n == 1 then reason.Length else if n == 2 then reason.Bits else if n == 3 then reason.Command else if n == 4 then reason.Application
    else if n == 5 then reason.Proxiable else if n == 6 then reason.AvpLength else if n == 7 then reason.Unknown else if n == 8 then reason.MBit else if n == 9 then reason.Missing
    else if n == 10 then reason.NotAllowed else if n == 11 then reason.TooMany else if n == 12 then reason.LeafLength else if n == 13 then reason.LeafValue else reason.Depth

abbrev pub row_of : Reason → ℕ
row_of r = (reason_row r).0

abbrev pub code_of : Reason → ℕ
code_of r = (reason_row r).1

abbrev pub reason_word : Reason → List ℕ
reason_word r = (reason_row r).2
