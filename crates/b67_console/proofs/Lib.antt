mod Alike
mod Assembling
mod Leads
mod Onward
mod Together
mod Whole
