use Rattle.std.proofs.Common.{◌≡◌, ◌++◌, take, string_bytes, codes, decimal}
use Rattle.std.specs.List.{flat_map}
use Rattle.judge_text.specs.Lines.{spaced}
use Rattle.judge_text.proofs.lines.view_line.Given as goal

-- the line has the numbers so far
abbrev pub invariant-loop-number : goal.invariant-loop-number
invariant-loop-number l = string_bytes l.line ≡ (codes "view " ++ (decimal l.fn.view ++ codes ":")) ++ flat_map spaced (take l.number-index l.numbers)
