mod Stretches
mod Openings
mod Answers
