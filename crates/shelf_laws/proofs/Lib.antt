mod Laid
mod Number
mod Shelved
mod Built
mod Written
mod Passed
mod Walked
