-- Lemmas.
pub mod ListedEntries
pub mod Appended
pub mod Identities
pub mod UnderWay
pub mod Runs
pub mod FirstNotes
pub mod Judgements
pub mod DictionaryRefused
pub mod FrontLines
pub mod OneLine
pub mod OneAnswer
