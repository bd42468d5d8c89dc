-- Writing a file into bytes that are handed in: what is answered, and what the bytes are afterwards.
use Rattle.std.specs.Prelude.{ℕ, cond, List, ◌++◌, length, drop, nat_lt}
use Rattle.trace.specs.Traces.{Trace}
use Rattle.trace_file.specs.Files.{file_of}

-- 14 where the bytes are too few, else the file's length
abbrev pub save_answer : Trace → ℕ → ℕ × ℕ
save_answer t room = cond (nat_lt room (length (file_of t))) (14, 0) (0, length (file_of t))

-- the file, and then what stood there before; where the bytes are too few, all of them as they were
abbrev pub save_after : Trace → List ℕ → List ℕ
save_after t bytes = cond (nat_lt (length bytes) (length (file_of t))) bytes (file_of t ++ drop (length (file_of t)) bytes)
