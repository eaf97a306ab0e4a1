-- What is left of bytes that are gone through line by line.
use Rattle.std.specs.Prelude.{List}
use Rattle.terms.specs.Terms.{Text}
use Rattle.lines.specs.Lines.{lines}
use Rattle.lines.specs.declared.Lines.{Lines}

-- the lines that are left
abbrev pub lines_left : Lines → List Text
lines_left s = lines s.rest.now
