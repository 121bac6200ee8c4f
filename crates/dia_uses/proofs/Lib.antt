mod Answers
mod FoundPlaces
mod LineLoops
mod OneText
