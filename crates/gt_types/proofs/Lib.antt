mod AsciiWords
mod Orders
mod Texts
