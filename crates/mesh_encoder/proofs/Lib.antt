mod Coding
