mod ObjectLines
mod ObjectNames
mod ObjectBeginnings
