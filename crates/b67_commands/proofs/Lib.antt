mod Leading
mod Lines
mod Moving
mod Notes
mod OneReading
mod Tried
