mod Ends
mod Halves
mod Homes
mod Declining
mod Turns
