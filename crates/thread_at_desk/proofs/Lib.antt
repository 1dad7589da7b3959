mod Framing
mod Commanded
mod Reading
