mod Striking
mod Tested
