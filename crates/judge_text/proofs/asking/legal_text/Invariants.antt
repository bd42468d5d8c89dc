use Rattle.std.proofs.Common.{◌≡◌, ◌++◌, take, string_bytes, codes}
use Rattle.std.specs.List.{flat_map}
use Rattle.judge_text.specs.Asked.{shown_line}
use Rattle.judge_text.proofs.asking.legal_text.Given as goal

-- the text has the lines so far
abbrev pub invariant-loop-played : goal.invariant-loop-played
invariant-loop-played l = string_bytes l.text ≡ codes "legal\n" ++ flat_map shown_line (take l.played-index l.views)
