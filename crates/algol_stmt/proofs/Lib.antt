mod Closing
mod Public
