-- How a message is shown, as a plain value.
use Rattle.dia_show.specs.declared.manner.Manner.{Manner as AnyManner}
use Rattle.dia_show.specs.Listing.{Manner}
use Rattle.dia_show.specs.Words.{plain_words}

abbrev pub plain_manner_of : AnyManner → Manner
plain_manner_of manner = record { words = plain_words manner.words; names = manner.names }
