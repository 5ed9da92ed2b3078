mod Taken
mod Seen
mod Spelled
mod LineByLine
