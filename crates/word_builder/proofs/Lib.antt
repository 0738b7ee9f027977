mod Letters
mod Runs
