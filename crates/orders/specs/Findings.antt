-- The clauses and the findings of an inspection, by their numbers.
use Rattle.std.specs.Prelude.{ℕ, ◌+◌, ◌*◌, Ok, Err, Result}
use Rattle.orders.specs.declared.finding.Clause.{Clause}
use Rattle.orders.specs.declared.finding.Clause.TheVariants as clause
use Rattle.orders.specs.declared.finding.Finding.{Finding}
use Rattle.orders.specs.declared.finding.Finding.TheVariants as finding

-- the number of a clause
abbrev pub clause_number : Clause → ℕ
clause_number clause.Exact = 1
clause_number clause.Ordered = 2
clause_number clause.Seeing = 3
clause_number clause.Agreeing = 4

-- the value of a finding: 100 for each clause, and the view that breaks it; 500 for what is left over
abbrev pub finding_number : Finding → ℕ
finding_number (finding.Broken clause view) = 100 * clause_number clause + view
finding_number finding.LeftOver = 500

-- the value of an inspection: 0 where nothing is found
abbrev pub found_number : {T : Type 0} → Result T Finding → ℕ
found_number (Ok _) = 0
found_number (Err f) = finding_number f
