mod Founds
mod Standings
mod Entering
mod Climbing
mod Spelling
