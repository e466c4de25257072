mod RootZeros
mod Opened
