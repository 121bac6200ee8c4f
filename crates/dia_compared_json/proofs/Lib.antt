mod Names
mod OneText
mod Pairs
mod Reports
mod Texts
