mod Codes
mod Digits
mod Whole
