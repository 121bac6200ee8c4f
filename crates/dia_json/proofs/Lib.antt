mod DataValues
mod ManyMessages
mod Members
mod Objects
mod Pairs
mod Reports
mod Shown
mod ShownLines
