mod Coding
mod Laying
mod Recording
