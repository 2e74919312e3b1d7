mod PartialRows
mod PartialSums
mod PartialWords
mod Pushed
mod RowLines
mod Writing
