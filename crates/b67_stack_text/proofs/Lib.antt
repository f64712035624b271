mod Enumerating
mod Tried
