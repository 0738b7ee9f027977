mod Inverting
mod Filling
mod Loading
