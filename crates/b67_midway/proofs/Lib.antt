mod Onward
mod Showing
