mod Turning
mod Spelling
