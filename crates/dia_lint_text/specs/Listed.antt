-- The listing of rows.
use Rattle.std.specs.Prelude.{◌≡◌, ℕ, List, ◌++◌, flat_map, map, string_bytes}
use Rattle.dia_accepted.specs.Accepted.{PlainEntry, plain_entry}
use Rattle.dia_book.specs.Dictionary.{Dictionary}
use Rattle.dia_lint.specs.declared.finding.Finding.{Finding}
use Rattle.dia_lint_text.specs.Asking.{Question}
use Rattle.dia_lint_text.specs.Lines.{accepted_of, ending, left_of, line_of, stale_of}
use Rattle.dia_lint_text.specs.Rows.{PlainRow}
use Rattle.dia_lint_text.specs.declared.listing.Listing.{Listing}

-- the listing has the lines that the list leaves of these rows, and what follows them
pub record IsListed (q : Question) (d : Dictionary) (text : List ℕ) (found : List Finding) (list : List PlainEntry) (rows : List PlainRow)
    (listing : Listing) : Type 0 where
  pub text_is : string_bytes listing.text ≡ flat_map (line_of q d text found) (left_of list found rows)
      ++ ending q.json (map (λ row. row.rule) (left_of list found rows)) (accepted_of list found rows) (stale_of list found rows)
  pub shown_is : map (λ s. s.rule) listing.shown.items ≡ map (λ row. row.rule) (left_of list found rows)
  pub stale_is : map plain_entry listing.stale.items ≡ stale_of list found rows
