-- The names of a node.
use Rattle.std.proofs.Common.{ℕ, List}
use Rattle.std.specs.Str.{IsUtf8}
use Rattle.dia_data.specs.Plain.{DiameterIdentity, Utf8String}
use Rattle.dia_data.proofs.FormatsBelow.{leaf_below}
use Rattle.dia_answer.specs.Names.{IsName}

-- a name is a text
pub name_is_text : (name : List ℕ) → IsName name → IsUtf8 name
name_is_text name is = leaf_below DiameterIdentity Utf8String tt name is.1
