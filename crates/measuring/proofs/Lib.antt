mod Refusing
mod Making
