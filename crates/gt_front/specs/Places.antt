-- Where a byte of a text stands, by line and column.
use Rattle.std.specs.Prelude.{ℕ, ◌+◌, ◌==◌, if◌then◌else◌, List, [], ◌∷◌, take}

-- how many lines end (with a newline, 10) in some bytes
unfoldable pub line_ends : List ℕ → ℕ
line_ends [] = 0
line_ends (byte ∷ bytes) = if byte == 10 then line_ends bytes + 1 else line_ends bytes

-- how many bytes stand after the last newline, where so many stand before them on their line
unfoldable pub after_newline : ℕ → List ℕ → ℕ
after_newline count [] = count
after_newline count (byte ∷ bytes) = if byte == 10 then after_newline 0 bytes else after_newline (count + 1) bytes

-- the line of an offset, from 1, and its column in bytes, from 1
abbrev pub line_of : List ℕ → ℕ → ℕ
line_of text at = line_ends (take at text) + 1

abbrev pub column_of : List ℕ → ℕ → ℕ
column_of text at = after_newline 0 (take at text) + 1
