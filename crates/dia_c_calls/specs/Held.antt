-- What handles hold.
use Rattle.std.specs.Prelude.{◌≡◌, ℕ, List, Option, None, Some, ⊤, map}
use denote.RawPtr.{Ptr}
use Rattle.std_alloc.specs.Vec.{vec_ptr}
use Rattle.dia_book.specs.Dictionary.{Dictionary}
use Rattle.dia_terms.specs.declared.Unknown.{Unknown}
use Rattle.dia_terms.specs.declared.Levels.{Levels}
use Rattle.dia_dict.specs.contracts.indexed_book.IndexedBookBook.TheImpl.{ghosts}
use Rattle.dia_c_calls.specs.declared.held.Held.{Held}
use Rattle.dia_c_calls.specs.declared.held.Held.TheVariants.{Dict, Text, Faults, Peer, Stream, Nothing}
use Rattle.dia_c_calls.specs.Feedings.{ChecksBy, FeedsFor}
use Rattle.dia_c_calls.specs.PlainFaults.{PlainFault, plain_fault}
use Rattle.dia_c_calls.specs.PeerSteps.{PlainEnd, IsTaken, plain_end}
use Rattle.dia_peer.specs.Outputs.{PlainOutput}

-- nothing but a dictionary
abbrev pub MayBeDict : Option Held → Type 0
MayBeDict None = ⊤
MayBeDict (Some (Dict owner room)) = ⊤
MayBeDict (Some (Text text)) = ⊥
MayBeDict (Some (Faults faults)) = ⊥
MayBeDict (Some (Peer peer)) = ⊥
MayBeDict (Some (Stream feeding)) = ⊥
MayBeDict (Some Nothing) = ⊥

-- nothing but a text
abbrev pub MayBeText : Option Held → Type 0
MayBeText None = ⊤
MayBeText (Some (Dict owner room)) = ⊥
MayBeText (Some (Text text)) = ⊤
MayBeText (Some (Faults faults)) = ⊥
MayBeText (Some (Peer peer)) = ⊥
MayBeText (Some (Stream feeding)) = ⊥
MayBeText (Some Nothing) = ⊥

-- nothing but a list of faults
abbrev pub MayBeFaults : Option Held → Type 0
MayBeFaults None = ⊤
MayBeFaults (Some (Dict owner room)) = ⊥
MayBeFaults (Some (Text text)) = ⊥
MayBeFaults (Some (Faults faults)) = ⊤
MayBeFaults (Some (Peer peer)) = ⊥
MayBeFaults (Some (Stream feeding)) = ⊥
MayBeFaults (Some Nothing) = ⊥

-- nothing but an end of a connection
abbrev pub MayBePeer : Option Held → Type 0
MayBePeer None = ⊤
MayBePeer (Some (Dict owner room)) = ⊥
MayBePeer (Some (Text text)) = ⊥
MayBePeer (Some (Faults faults)) = ⊥
MayBePeer (Some (Peer peer)) = ⊤
MayBePeer (Some (Stream feeding)) = ⊥
MayBePeer (Some Nothing) = ⊥

-- nothing but a message that comes in pieces
abbrev pub MayBeStream : Option Held → Type 0
MayBeStream None = ⊤
MayBeStream (Some (Dict owner room)) = ⊥
MayBeStream (Some (Text text)) = ⊥
MayBeStream (Some (Faults faults)) = ⊥
MayBeStream (Some (Peer peer)) = ⊥
MayBeStream (Some (Stream feeding)) = ⊤
MayBeStream (Some Nothing) = ⊥

-- the dictionary that is held
abbrev pub dict_in : Option Held → Option Dictionary
dict_in None = None
dict_in (Some (Dict owner room)) = Some (ghosts.meaning owner.value)
dict_in (Some (Text text)) = None
dict_in (Some (Faults faults)) = None
dict_in (Some (Peer peer)) = None
dict_in (Some (Stream feeding)) = None
dict_in (Some Nothing) = None

-- the bytes of the text that is held
abbrev pub text_in : Option Held → Option (List ℕ)
text_in None = None
text_in (Some (Dict owner room)) = None
text_in (Some (Text text)) = Some text.items
text_in (Some (Faults faults)) = None
text_in (Some (Peer peer)) = None
text_in (Some (Stream feeding)) = None
text_in (Some Nothing) = None

-- the bytes of the text that is held are at this address
abbrev pub IsTextAt : Option Held → Ptr → Type 0
IsTextAt None at = ⊥
IsTextAt (Some (Dict owner room)) at = ⊥
IsTextAt (Some (Text text)) at = at ≡ vec_ptr text
IsTextAt (Some (Faults faults)) at = ⊥
IsTextAt (Some (Peer peer)) at = ⊥
IsTextAt (Some (Stream feeding)) at = ⊥
IsTextAt (Some Nothing) at = ⊥

-- the faults that are held
abbrev pub faults_in : Option Held → Option (List PlainFault)
faults_in None = None
faults_in (Some (Dict owner room)) = None
faults_in (Some (Text text)) = None
faults_in (Some (Faults faults)) = Some (map plain_fault faults.items)
faults_in (Some (Peer peer)) = None
faults_in (Some (Stream feeding)) = None
faults_in (Some Nothing) = None

-- the end of a connection that is held
abbrev pub peer_in : Option Held → Option PlainEnd
peer_in None = None
peer_in (Some (Dict owner room)) = None
peer_in (Some (Text text)) = None
peer_in (Some (Faults faults)) = None
peer_in (Some (Peer peer)) = Some (plain_end peer.value)
peer_in (Some (Stream feeding)) = None
peer_in (Some Nothing) = None

-- these bytes came of the message that is held, and are checked against this dictionary
abbrev pub Denotes : Option Held → Dictionary → Unknown → Levels → List ℕ → Type 0
Denotes None d u most bytes = ⊥
Denotes (Some (Dict owner room)) d u most bytes = ⊥
Denotes (Some (Text text)) d u most bytes = ⊥
Denotes (Some (Faults faults)) d u most bytes = ⊥
Denotes (Some (Peer peer)) d u most bytes = ⊥
Denotes (Some (Stream feeding)) d u most bytes = FeedsFor feeding d u most bytes
Denotes (Some Nothing) d u most bytes = ⊥

-- the message that is held is checked against this dictionary, with this policy and this limit
abbrev pub IsCheckedBy : Option Held → Dictionary → Unknown → Levels → Type 0
IsCheckedBy None d u most = ⊥
IsCheckedBy (Some (Dict owner room)) d u most = ⊥
IsCheckedBy (Some (Text text)) d u most = ⊥
IsCheckedBy (Some (Faults faults)) d u most = ⊥
IsCheckedBy (Some (Peer peer)) d u most = ⊥
IsCheckedBy (Some (Stream feeding)) d u most = ChecksBy feeding d u most
IsCheckedBy (Some Nothing) d u most = ⊥

-- the next output of the end was taken
pub data Takes (old new : Option PlainEnd) (output : PlainOutput) : Type 0 where
  taken : (before after : PlainEnd) → old ≡ Some before → new ≡ Some after → IsTaken before after output → Takes old new output
