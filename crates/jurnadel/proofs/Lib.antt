mod Outcomes
mod Parts
