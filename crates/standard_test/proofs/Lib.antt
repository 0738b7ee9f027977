mod Bits
mod Entries
