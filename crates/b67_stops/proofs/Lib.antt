mod Onward
mod Placing
