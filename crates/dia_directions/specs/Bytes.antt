-- The bytes of a segment.
use Rattle.std.specs.Prelude.{ℕ, ◌-◌, List, ◌++◌, length, map, replicate, flat_map, Option, Some, None}
use Rattle.dia_segments.specs.Segments.{PlainSegment}
use Rattle.dia_directions.specs.declared.piece.Part.{Part}
use Rattle.dia_directions.specs.declared.piece.Piece.{Piece}

-- captured bytes, and behind them as many as the snap length cut, which aren't known
abbrev pub bytes_of : List ℕ → ℕ → List (Option ℕ)
bytes_of captured cut = map (λ byte. Some byte) captured ++ replicate cut None

abbrev pub segment_bytes : PlainSegment → List (Option ℕ)
segment_bytes s = bytes_of s.bytes (s.size - length s.bytes)

abbrev pub part_bytes : Part → List (Option ℕ)
part_bytes p = bytes_of p.bytes.now p.cut

abbrev pub piece_bytes : Piece → List (Option ℕ)
piece_bytes p = bytes_of p.bytes.items p.cut

abbrev pub run_bytes : List Piece → List (Option ℕ)
run_bytes pieces = flat_map piece_bytes pieces
