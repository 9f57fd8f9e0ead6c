-- The text of an image.
use Rattle.std.specs.Prelude.{ℕ, ◌+◌, ◌-◌, cond, List, [], ◌∷◌, ◌++◌, length, codes, decimal, ◌==◌}
use Rattle.memory.specs.declared.width.Width.{Width}
use Rattle.memory.specs.Bytes.{width_of, top_of, count_of, cells_of, rest_of}
use Rattle.dump.specs.Lines.{Line, zeros, words, lines_of}

abbrev pub newline : List ℕ
newline = 10 ∷ []

-- the ending of a noun that a number stands before
abbrev pub plural_of : ℕ → List ℕ
plural_of n = cond (n == 1) [] (codes "s")

-- a line that is left out where it would speak of none
abbrev pub unless_none : ℕ → List ℕ → List ℕ
unless_none count line = cond (count == 0) [] line

abbrev pub head_text : ℕ → ℕ → ℕ → List ℕ
head_text count width top =
    decimal count ++ (codes " cell" ++ (plural_of count ++ (codes " of " ++ (decimal width ++ (codes " bytes, top word " ++ (decimal top ++ newline))))))

-- how the line of the cells from `first` on, before `end`, begins
abbrev pub span_text : ℕ → ℕ → List ℕ
span_text first end = codes "cells " ++ (decimal first ++ (codes " to " ++ (decimal (end - 1) ++ codes ":")))

abbrev pub words_text : List ℕ → List ℕ
words_text [] = []
words_text (word ∷ row) = codes " " ++ (decimal word ++ words_text row)

abbrev pub zeros_text : ℕ → ℕ → List ℕ
zeros_text first end = span_text first end ++ (codes " all 0" ++ newline)

abbrev pub row_text : ℕ → List ℕ → List ℕ
row_text first row = span_text first (first + length row) ++ (words_text row ++ newline)

abbrev pub line_text : Line → List ℕ
line_text (zeros first n) = zeros_text first (first + n)
line_text (words first row) = row_text first row

abbrev pub lines_text : List Line → List ℕ
lines_text [] = []
lines_text (line ∷ lines) = line_text line ++ lines_text lines

abbrev pub left_text : ℕ → List ℕ
left_text count = decimal count ++ (codes " byte" ++ (plural_of count ++ (codes " left over" ++ newline)))

-- how many cells there are and what they take, the lines of the cells, and the bytes that are in no cell
abbrev pub image_text : Width → List ℕ → List ℕ
image_text width bytes =
    head_text (count_of width bytes) (width_of width) (top_of width) ++ (lines_text (lines_of (cells_of width bytes)) ++ unless_none (length (rest_of width bytes)) (left_text (length (rest_of width bytes))))
