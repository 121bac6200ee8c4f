pub mod InRange
mod GroupsFound
pub mod Shortest
pub mod Confirmed
mod Standings
mod Unchecked
mod Tried
mod FormatData
mod DataLines
pub mod SentKeys
pub mod Tellings
mod OwnBreaks
pub mod OtherReadings
pub mod OneSolution
mod OrderedKeys
mod Starts
mod RecordingPlaces
mod LeastNumbers
mod FoundApps
mod FoundExits
pub mod FloorsOfEntries
pub mod KeptFloors
pub mod ExactFloors
pub mod LevelCosts
pub mod SentPrices
pub mod SentLevels
pub mod Lists
pub mod Outlooks
pub mod OpenCommands
pub mod RecordedHeaders
pub mod TooLong
mod CorrectedHeaders
mod CorrectedLines
mod Nested
mod OneMessage
pub mod SomeMessages
pub mod MessageBytes
mod OnceCorrected
pub mod FreeOfLines
mod Paths
mod ValueTexts
pub mod InOrder
pub mod RecordedLists
pub mod OneListing
mod FoundLines
pub mod Listings
pub mod OneOwn
pub mod OneStart
pub mod TheOneList
mod OneStock
pub mod RecordedLines
pub mod EachLevelLine
pub mod LookedHeaders
pub mod Reached
pub mod ReadLevels
pub mod TopLevels
pub mod OwnFits
pub mod PlacedLevels
pub mod AllMeanings
pub mod SitesOfReadings
pub mod AllLines
mod WalkGraphs
mod Fronts
mod GapsInRanges
mod LackingNumbers
mod CostsOfSides
mod RecordedLevels
mod ReadNumbers
mod RefusedLevels
mod ShownLevels
mod OwnRecorded
mod SpelledLevels
mod ShownAvps
mod EachShown
pub mod StockOfUpgrade
pub mod PartsOfLines
